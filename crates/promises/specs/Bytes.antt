-- What lent bytes hold: a plan, and a tree for its objects.
use Rattle.std.specs.Prelude.{ℕ, ◌≤◌, List, [], length, Float}
use Rattle.words.specs.Words.{words_of, floats_of}
use Rattle.plan.specs.Sections.{nodes_words, order_places}
use Rattle.plan.specs.Plan.{Plan, plan_in}
use Rattle.bvh_boxes.specs.Boxes.{boxes_of}
use Rattle.bvh_rules.specs.Rules.{Tree, Holds, Accepted, MeetsRules}
use Rattle.wire_lengths.specs.Lengths.{plan_bytes, nodes_bytes, order_bytes}
use Rattle.wire.specs.Lent.{plan_table}

-- ---- the plan that a call reads, with so many bytes of arguments after it
abbrev pub plan_with : ℕ → List ℕ → List ℕ → Plan
plan_with need plan args = plan_in (plan_table need plan args)

abbrev pub plan_at : List ℕ → Plan  -- the plan alone: a sound one is the same whatever is lent after it
plan_at plan = plan_with 0 plan []

abbrev pub object_count : List ℕ → ℕ
object_count plan = length (plan_at plan).objects

-- ---- a tree's nodes, as words and as floats, and its order
abbrev pub words_of_nodes : List ℕ → List ℕ
words_of_nodes nodes = words_of nodes nodes_words

abbrev pub node_floats : List ℕ → List Float
node_floats nodes = floats_of (words_of_nodes nodes) nodes_words

abbrev pub order_words : List ℕ → List ℕ
order_words order = words_of order order_places

-- the bytes hold the tree t for the plan's objects: by every rule but depth, by every rule
abbrev pub HoldsTree : List ℕ → List ℕ → List ℕ → Tree → Type 0
HoldsTree plan nodes order t =
    Holds (words_of_nodes nodes) (node_floats nodes) (order_words order) (boxes_of (plan_at plan)) t

abbrev pub AcceptedTree : List ℕ → List ℕ → List ℕ → Tree → Type 0
AcceptedTree plan nodes order t =
    Accepted (words_of_nodes nodes) (node_floats nodes) (order_words order) (boxes_of (plan_at plan)) t

abbrev pub TreeRules : List ℕ → List ℕ → List ℕ → Type 0  -- the bytes meet the tree rules: with no objects any do
TreeRules plan nodes order =
    MeetsRules (words_of_nodes nodes) (node_floats nodes) (order_words order) (boxes_of (plan_at plan))

-- ---- tables of full size
abbrev pub FullPlan : List ℕ → Type 0
FullPlan plan = plan_bytes ≤ length plan

pub record FullTree (nodes order : List ℕ) : Type 0 where
  pub nodes_full : nodes_bytes ≤ length nodes
  pub order_full : order_bytes ≤ length order
