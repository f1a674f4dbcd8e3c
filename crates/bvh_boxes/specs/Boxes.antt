-- Boxes in order: finite corners, a box within a box, the least box around many, and the boxes of a plan's objects.
use Rattle.std.specs.Prelude.{ℕ, Bool, ◌&&◌, List, map, get_or}
use Rattle.std.specs.Float.Ieee.{le, neg}
use Rattle.vectors.specs.declared.Vec3.{Vec3}
use Rattle.vectors.specs.Vec.{vsplat, vmin, vmax}
use Rattle.sdf.specs.declared.Aabb.{Aabb}
use Rattle.sdf.specs.Boxes.{box_of}
use Rattle.refusals.specs.Ranges.{greatest, within}
use Rattle.plan.specs.Records.{no_vec}
use Rattle.plan.specs.Plan.{Piece, Plan}

unfoldable pub finite_box : Aabb → Bool  -- "All corners are finite"
finite_box b = within b.lo greatest && within b.hi greatest

unfoldable pub all_at_most : Vec3 → Vec3 → Bool
all_at_most a b = le a.x b.x && (le a.y b.y && le a.z b.z)

unfoldable pub inside : Aabb → Aabb → Bool  -- the box a lies within the box b
inside a b = all_at_most b.lo a.lo && all_at_most a.hi b.hi

abbrev pub nowhere : Aabb  -- the least box around many: from f32::MAX down and from f32::MIN up
nowhere = record { lo = vsplat greatest; hi = vsplat (neg greatest) }

unfoldable pub merge : Aabb → Aabb → Aabb
merge a b = record { lo = vmin a.lo b.lo; hi = vmax a.hi b.hi }

unfoldable pub object_box : Piece → Aabb  -- the boxes of a plan's objects, each widened by its blend
object_box o = box_of o.head.shape o.head.blend

unfoldable pub boxes_of : Plan → List Aabb
boxes_of p = map object_box p.objects

abbrev pub no_box : Aabb  -- what stands for the box of an object that is not there: it lies within no box
no_box = record { lo = no_vec; hi = no_vec }

abbrev pub box_at : List Aabb → ℕ → Aabb
box_at bs o = get_or bs o no_box
