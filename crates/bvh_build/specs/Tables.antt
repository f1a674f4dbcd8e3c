-- What is built of a plan's objects: the tree, its size, whether it is low enough, and what it leaves in both tables.
use Rattle.std.specs.Prelude.{ℕ, Bool, true, cond, List, length, ◌==◌}
use Rattle.words.specs.Lists.{list_from}
use Rattle.plan.specs.Plan.{Plan}
use Rattle.bvh_boxes.specs.Boxes.{boxes_of}
use Rattle.bvh_rules.specs.Rules.{size, place}
use Rattle.bvh_build.specs.Build.{TreeOrder, build_of}
use Rattle.bvh_build.specs.Encode.{encode, laid, low_of}

unfoldable pub built_of : Plan → TreeOrder  -- the tree that the source builds of a plan's objects
built_of p = build_of (boxes_of p) (list_from place 0 (length p.objects))

unfoldable pub size_of : Plan → ℕ  -- with no objects no nodes
size_of p = cond (length p.objects == 0) 0 (size (built_of p).tree)

unfoldable pub low_enough : Plan → Bool
low_enough p = cond (length p.objects == 0) true (low_of (built_of p).tree 64)

unfoldable pub nodes_with : Plan → List ℕ → List ℕ
nodes_with p nodes = cond (length p.objects == 0) nodes (laid nodes 0 (encode (built_of p).tree 0 0))

unfoldable pub order_with : Plan → List ℕ → List ℕ
order_with p order = cond (length p.objects == 0) order (laid order 0 (built_of p).order)
