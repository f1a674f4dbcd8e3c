-- The least box around a box and others.
use Rattle.std.specs.Prelude.{List, [], ◌∷◌}
use Rattle.sdf.specs.declared.Aabb.{Aabb}
use Rattle.bvh_boxes.specs.Boxes.{merge}

unfoldable pub hull_from : Aabb → List Aabb → Aabb
hull_from a [] = a
hull_from a (b ∷ bs) = hull_from (merge a b) bs
