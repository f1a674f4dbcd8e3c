-- "An object's box is `bounds()` widened by blend, its centre half the sum of the corners." Box distance: `aabb_dist`.
use Rattle.std.specs.Prelude.{Option, Some, None, Float}
use Rattle.scalar.specs.F32.{◌⊕◌, f0, fhalf}
use Rattle.scalar.specs.Extremes.{fmax}
use Rattle.vectors.specs.declared.Vec3.{Vec3}
use Rattle.vectors.specs.Vec.{vsplat, vadd, vsub, vscale, vlength, vmin, vmax}
use Rattle.sdf.specs.declared.Shape.{Shape}
use Rattle.sdf.specs.declared.Shape.TheVariants.{Sphere, RoundBox, Plane, Capsule, Torus, Cylinder, Cone}
use Rattle.sdf.specs.declared.Aabb.{Aabb}

unfoldable pub spread : Vec3 → Vec3 → Aabb
spread c e = record { lo = vsub c e; hi = vadd c e }

unfoldable pub around : Vec3 → Vec3 → Float → Aabb
around a b r = record { lo = vsub (vmin a b) (vsplat r); hi = vadd (vmax a b) (vsplat r) }

unfoldable pub bounds_of : Shape → Option Aabb  -- a plane has none
bounds_of (Sphere c r) = Some (spread c (vsplat r))
bounds_of (RoundBox c b r) = Some (spread c b)
bounds_of (Plane n h) = None
bounds_of (Capsule a b r) = Some (around a b r)
bounds_of (Torus c major minor) = Some (spread c (record { x = major ⊕ minor; y = minor; z = major ⊕ minor }))
bounds_of (Cylinder a b r) = Some (around a b r)
bounds_of (Cone a b ra rb) = Some (around a b (fmax ra rb))

unfoldable pub widened : Aabb → Float → Aabb
widened b e = record { lo = vsub b.lo (vsplat e); hi = vadd b.hi (vsplat e) }

abbrev pub box_in : Option Aabb → Float → Aabb  -- no object is a plane: for one the zero box stands in
box_in (Some b) e = widened b e
box_in None e = record { lo = vsplat f0; hi = vsplat f0 }

unfoldable pub box_of : Shape → Float → Aabb
box_of s blend = box_in (bounds_of s) blend

unfoldable pub centre_of : Aabb → Vec3
centre_of b = vscale (vadd b.lo b.hi) fhalf

unfoldable pub box_dist : Vec3 → Aabb → Float
box_dist p b = vlength (vmax (vmax (vsub b.lo p) (vsub p b.hi)) (vsplat f0))
