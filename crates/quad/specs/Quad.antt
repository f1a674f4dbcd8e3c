-- Centre, normal and area of four corners, as the source's `QuadLight` has them: "`center` sums left to right, then
-- times 0.25; `area`'s second triangle starts at corner 2".
use Rattle.std.specs.Prelude.{Float}
use Rattle.scalar.specs.F32.{◌⊕◌, ◌⊗◌, fhalf, fquarter}
use Rattle.vectors.specs.declared.Vec3.{Vec3}
use Rattle.vectors.specs.Vec.{vadd, vsub, vscale, vcross, vlength, vnormalize}
use Rattle.quad.specs.declared.Quad.{Quad}

abbrev pub edge1 : Quad → Vec3  -- the two edges at corner 0, and their cross product
edge1 q = vsub q.v1 q.v0

abbrev pub edge2 : Quad → Vec3
edge2 q = vsub q.v3 q.v0

unfoldable pub spanned : Quad → Vec3
spanned q = vcross (edge1 q) (edge2 q)

unfoldable pub center_of : Quad → Vec3
center_of q = vscale (vadd (vadd (vadd q.v0 q.v1) q.v2) q.v3) fquarter

unfoldable pub normal_of : Quad → Vec3
normal_of q = vnormalize (spanned q)

unfoldable pub area_of : Quad → Float
area_of q = fhalf ⊗ (vlength (spanned q) ⊕ vlength (vcross (vsub q.v3 q.v2) (vsub q.v1 q.v2)))
