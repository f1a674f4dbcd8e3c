-- The frame of a normal, and a quad seen in it from a point, as the source's ltc.rs has them: "`to_local` reverses the
-- corners".
use Rattle.std.specs.Prelude.{cond, Float}
use Rattle.std.specs.Float.Ieee.{neg, le}
use Rattle.scalar.specs.F32.{◌⊕◌, ◌⊗◌, ◌⊘◌, f0, f1}
use Rattle.vectors.specs.declared.Vec3.{Vec3}
use Rattle.vectors.specs.Vec.{vsub, vdot}
use Rattle.quad.specs.declared.Quad.{Quad}
use Rattle.ltc.specs.declared.Axes.{Axes}

unfoldable pub side_of : Float → Float  -- 1 with the sign of a normal's z
side_of z = cond (le f0 z) f1 (neg f1)

unfoldable pub frame_of : Vec3 → Axes
frame_of n =
    let s = side_of n.z in
    let a = neg f1 ⊘ (s ⊕ n.z) in
    let b = n.x ⊗ n.y ⊗ a in
    record {
      tan = record { x = f1 ⊕ s ⊗ n.x ⊗ n.x ⊗ a; y = s ⊗ b; z = neg s ⊗ n.x };
      bit = record { x = b; y = s ⊕ n.y ⊗ n.y ⊗ a; z = neg n.y };
    }

unfoldable pub local_of : Vec3 → Vec3 → Axes → Vec3 → Vec3
local_of v p f n =
    let d = vsub v p in
    record { x = vdot d f.tan; y = vdot d f.bit; z = vdot d n }

unfoldable pub to_local_of : Quad → Vec3 → Axes → Vec3 → Quad
to_local_of q p f n =
    record {
      v0 = local_of q.v3 p f n;
      v1 = local_of q.v2 p f n;
      v2 = local_of q.v1 p f n;
      v3 = local_of q.v0 p f n;
    }
