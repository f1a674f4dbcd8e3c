-- The range of objects that a node covers: its box, the box of its centres, and whether it is a leaf. "Leaf at 4 or
-- fewer or centroid extent below 1e-9. At a tie of extents the source's tests decide (x equal to y, above z: axis y)."
use Rattle.std.specs.Prelude.{ℕ, Bool, cond, ◌&&◌, ◌||◌, List, [], ◌∷◌, leb, Float}
use Rattle.std.specs.Float.Ieee.{lt}
use Rattle.scalar.specs.F32.{f1e_9}
use Rattle.vectors.specs.declared.Vec3.{Vec3}
use Rattle.vectors.specs.Vec.{vsub, vaxis}
use Rattle.sdf.specs.declared.Aabb.{Aabb}
use Rattle.sdf.specs.Boxes.{centre_of}
use Rattle.bvh_boxes.specs.Boxes.{nowhere, merge, box_at}
use Rattle.bvh_range.specs.declared.Span.{Span}

unfoldable pub members : List Aabb → List ℕ → List Aabb  -- the boxes of the objects of a range
members bs [] = []
members bs (o ∷ os) = box_at bs o ∷ members bs os

abbrev pub point : Aabb → Aabb
point b = record { lo = centre_of b; hi = centre_of b }

unfoldable pub grow : Span → Aabb → Span  -- one box more
grow s b = record { hull = merge s.hull b; centres = merge s.centres (point b) }

unfoldable pub span_from : Span → List Aabb → Span
span_from s [] = s
span_from s (b ∷ bs) = span_from (grow s b) bs

abbrev pub no_span : Span
no_span = record { hull = nowhere; centres = nowhere }

unfoldable pub span_of : List Aabb → List ℕ → Span
span_of bs os = span_from no_span (members bs os)

unfoldable pub extent_of : Aabb → Vec3
extent_of c = vsub c.hi c.lo

unfoldable pub axis_of : Vec3 → ℕ
axis_of e = cond (lt e.y e.x && lt e.z e.x) 0 (cond (lt e.z e.y) 1 2)

abbrev pub narrowest : Float
narrowest = f1e_9

unfoldable pub stops : ℕ → Vec3 → Bool
stops n e = leb n 4 || lt (vaxis e (axis_of e)) narrowest
