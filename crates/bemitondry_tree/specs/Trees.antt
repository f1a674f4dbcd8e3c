-- Build and offer: "with no objects they send 0 and no nodes, and leave both tables zero. An accepted offer copies the
-- tree's words and the order, and zeroes what lies past them. A build that ends in 7 leaves node and order tables all
-- zero."
use Rattle.std.specs.Prelude.{ℕ, ◌+◌, ◌*◌, cond, Option, Some, None, List, length, replicate, ltb, eqb, Float}
use Rattle.words.specs.Lists.{list_from}
use Rattle.refusals.specs.Refusals.{too_deep, unless, lower}
use Rattle.plan.specs.Sections.{nodes_first, order_first, nodes_words, order_places}
use Rattle.plan.specs.Records.{word_of}
use Rattle.plan.specs.Plan.{Plan, plan_of}
use Rattle.plan_test.specs.Tests.{objects_number}
use Rattle.bvh_boxes.specs.Boxes.{boxes_of}
use Rattle.bvh_rules.specs.declared.Sub.{Sub}
use Rattle.bvh_rules.specs.Nodes.{nodes_of, order_of}
use Rattle.bvh_rules.specs.Check.{judge_of, offered_number}
use Rattle.bvh_build.specs.Tables.{low_enough}

abbrev pub no_nodes : List ℕ
no_nodes = replicate nodes_words 0

abbrev pub no_order : List ℕ
no_order = replicate order_places 0

abbrev pub of_objects : ℕ → Plan → ℕ → ℕ  -- a tree of objects that are in order: else nothing is judged of it
of_objects before p number = lower before (cond (eqb (objects_number p) 0) number (objects_number p))

unfoldable pub build_number : ℕ → Plan → ℕ  -- a build of the plan's objects; before is a number that applies already
build_number before p = of_objects before p (unless too_deep (low_enough p))

unfoldable pub judged_tree : List ℕ → List Float → Option Sub  -- the tree offered, as the table's nodes and order
judged_tree w f = judge_of 64 (nodes_of w) (nodes_of f) (order_of w) (boxes_of (plan_of w f))

unfoldable pub offered_tree : List ℕ → List Float → ℕ
offered_tree w f = offered_number (nodes_of w) (nodes_of f) (order_of w) (boxes_of (plan_of w f))

unfoldable pub offer_number : ℕ → List ℕ → List Float → ℕ
offer_number before w f = of_objects before (plan_of w f) (offered_tree w f)

abbrev pub size_in : Option Sub → ℕ  -- how many nodes a good tree has
size_in None = 0
size_in (Some s) = s.next

unfoldable pub front_word : List ℕ → ℕ → ℕ → ℕ → ℕ  -- word i from a place on, where it is one of the first k; else 0
front_word w from k i = cond (ltb i k) (word_of w (from + i)) 0

abbrev pub offered_nodes : List ℕ → List Float → List ℕ  -- the tree's words
offered_nodes w f = list_from (front_word w nodes_first (9 * size_in (judged_tree w f))) 0 nodes_words

abbrev pub offered_order : List ℕ → List Float → List ℕ  -- the order of the objects
offered_order w f = list_from (front_word w order_first (length (plan_of w f).objects)) 0 order_places
