-- Where a ray meets a quad (the source's `intersect_quad`), and the quad's point nearest to another
-- (`closest_on_quad`).
use Rattle.std.specs.Prelude.{Bool, cond, ◌&&◌, Option, Some, None, Float}
use Rattle.std.specs.Float.Ieee.{lt}
use Rattle.scalar.specs.F32.{◌⊘◌, f0, f1, f1e_4, f1e_9}
use Rattle.scalar.specs.Extremes.{clamp_of}
use Rattle.scalar.specs.Signs.{abs_of}
use Rattle.scalar.specs.Ranges.{between}
use Rattle.vectors.specs.declared.Vec3.{Vec3}
use Rattle.vectors.specs.Vec.{vadd, vsub, vscale, vdot}
use Rattle.quad.specs.declared.Quad.{Quad}
use Rattle.quad.specs.Quad.{edge1, edge2, spanned}

abbrev pub along : Vec3 → Vec3 → Float  -- how far d goes along the edge e, from 0 to 1
along d e = vdot d e ⊘ vdot e e

unfoldable pub within_edge : Vec3 → Vec3 → Bool
within_edge d e = between f0 (along d e) f1

unfoldable pub inside_of : Quad → Vec3 → Float → Option Float
inside_of q p t = cond (within_edge p (edge1 q) && within_edge p (edge2 q)) (Some t) None

unfoldable pub ahead_of : Quad → Vec3 → Vec3 → Float → Option Float
ahead_of q ro rd t = cond (lt t f1e_4) None (inside_of q (vsub (vadd ro (vscale rd t)) q.v0) t)

unfoldable pub intersect_of : Quad → Vec3 → Vec3 → Option Float  -- a ray along the quad's plane meets it nowhere
intersect_of q ro rd =
    cond (lt (abs_of (vdot (spanned q) rd)) f1e_9) None
    (ahead_of q ro rd (vdot (vsub q.v0 ro) (spanned q) ⊘ vdot (spanned q) rd))

unfoldable pub closest_of : Quad → Vec3 → Vec3
closest_of q p =
    let d = vsub p q.v0 in
    vadd (vadd q.v0 (vscale (edge1 q) (clamp_of (along d (edge1 q)) f0 f1)))
    (vscale (edge2 q) (clamp_of (along d (edge2 q)) f0 f1))
