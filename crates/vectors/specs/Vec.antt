-- "`dot` is (xx + yy) + zz, length is the root of `dot(self)`, normalise multiplies by 1/length", lerp is as pinned.
use Rattle.std.specs.Prelude.{ℕ, cond, eqb, Float}
use Rattle.std.specs.Float.Ieee.{neg}
use Rattle.root.specs.Root.{root_of}
use Rattle.scalar.specs.F32.{◌⊕◌, ◌⊖◌, ◌⊗◌, ◌⊘◌, f1}
use Rattle.scalar.specs.Extremes.{fmin, fmax}
use Rattle.scalar.specs.Signs.{abs_of}
use Rattle.vectors.specs.declared.Vec3.{Vec3}

abbrev pub each : (Float → Float) → Vec3 → Vec3  -- a function at each component
each f a = record { x = f a.x; y = f a.y; z = f a.z }

abbrev pub both : (Float → Float → Float) → Vec3 → Vec3 → Vec3
both f a b = record { x = f a.x b.x; y = f a.y b.y; z = f a.z b.z }

unfoldable pub vsplat : Float → Vec3
vsplat a = record { x = a; y = a; z = a }

unfoldable pub vadd : Vec3 → Vec3 → Vec3
vadd a b = both ◌⊕◌ a b

unfoldable pub vsub : Vec3 → Vec3 → Vec3
vsub a b = both ◌⊖◌ a b

unfoldable pub vmul : Vec3 → Vec3 → Vec3
vmul a b = both ◌⊗◌ a b

unfoldable pub vscale : Vec3 → Float → Vec3
vscale a s = each (λ (u : Float). u ⊗ s) a

unfoldable pub vover : Vec3 → Float → Vec3
vover a s = each (λ (u : Float). u ⊘ s) a

unfoldable pub vneg : Vec3 → Vec3
vneg a = each neg a

unfoldable pub vdot : Vec3 → Vec3 → Float
vdot a b = a.x ⊗ b.x ⊕ a.y ⊗ b.y ⊕ a.z ⊗ b.z

unfoldable pub vcross : Vec3 → Vec3 → Vec3
vcross a b = record { x = a.y ⊗ b.z ⊖ b.y ⊗ a.z; y = a.z ⊗ b.x ⊖ b.z ⊗ a.x; z = a.x ⊗ b.y ⊖ b.x ⊗ a.y }

unfoldable pub vlength : Vec3 → Float
vlength a = root_of (vdot a a)

unfoldable pub vnormalize : Vec3 → Vec3
vnormalize a = vscale a (f1 ⊘ vlength a)

unfoldable pub vlerp : Vec3 → Vec3 → Float → Vec3  -- a * (1 - s) + b * s
vlerp a b s = vadd (vscale a (f1 ⊖ s)) (vscale b s)

unfoldable pub vmin : Vec3 → Vec3 → Vec3
vmin a b = both fmin a b

unfoldable pub vmax : Vec3 → Vec3 → Vec3
vmax a b = both fmax a b

unfoldable pub vabs : Vec3 → Vec3
vabs a = each abs_of a

unfoldable pub vaxis : Vec3 → ℕ → Float
vaxis a k = cond (eqb k 0) a.x (cond (eqb k 1) a.y a.z)
