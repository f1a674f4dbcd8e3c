-- What a call by the tree reads of its table is what the bytes hold: by where each part lies. Assumes nothing.
use Prim.Native.Nat.{ℕ}
use mathlib.Core.Path.{◌≡◌, ◌∙◌, ap}
use mathlib.Core.List.{List, []}
use lib.ListN.{length}
use lib.Ieee.{Float}
use Rattle.sdf.specs.declared.Aabb.{Aabb}
use Rattle.words.specs.Words.{words_of}
use Rattle.plan.specs.Sections.{nodes_words, order_places, table_words}
use Rattle.plan.specs.Plan.{seen, plan_in}
use Rattle.plan_test.specs.Exact.{SoundObjects}
use Rattle.bvh_boxes.specs.Boxes.{boxes_of}
use Rattle.bvh_rules.specs.Nodes.{nodes_of, order_of}
use Rattle.wire_lengths.specs.Lengths.{nodes_bytes, order_bytes}
use Rattle.wire.specs.Lent.{plan_table, ask_table}
use Rattle.promises.specs.Bytes.{plan_at, words_of_nodes, node_floats, order_words, FullTree}
use Rattle.promises.proofs.Tables.{table_length, table_nodes, table_floats, table_order, used_full}
use Rattle.promises.proofs.Alone.{asked_same, sound_housed, objects_alone, sound_alone}

module _ (need : ℕ) (plan nodes order args : List ℕ) where
  abbrev W : List ℕ
  W = ask_table need plan nodes order 1 args

  pub ask_length : length (ask_table need plan nodes order 1 args) ≡ table_words
  unfolding ask_table
  ask_length = table_length _ _ _ _

  pub ask_sound : SoundObjects (plan_at plan) → SoundObjects (plan_in (ask_table need plan nodes order 1 args))
  ask_sound = sound_alone (plan_table 0 plan []) W (asked_same need plan nodes order 1 args)

  -- ---- the tree's tables
  module _ (full : FullTree nodes order) where
    pub ask_nodes : nodes_of (ask_table need plan nodes order 1 args) ≡ words_of_nodes nodes
    unfolding ask_table
    ask_nodes =
        table_nodes _ _ _ _
        ∙ ap (λ (t : List ℕ). words_of t nodes_words) (used_full nodes nodes_bytes full.nodes_full)

    ask_floats : nodes_of (seen W) ≡ node_floats nodes
    unfolding ask_table
    ask_floats = table_floats _ _ _ _ ∙ ap node_floats (used_full nodes nodes_bytes full.nodes_full)

    pub ask_order : order_of (ask_table need plan nodes order 1 args) ≡ order_words order
    unfolding ask_table
    ask_order =
        table_order _ _ _ _
        ∙ ap (λ (t : List ℕ). words_of t order_places) (used_full order order_bytes full.order_full)

    -- whatever is worked out of a table's nodes, order and boxes is that of the bytes, for any plan of these objects
    pub ask_reads
        : {A : Type 0} (of : List ℕ → List Float → List ℕ → List Aabb → A) (made : List ℕ)
        → SoundObjects (plan_at made)
        → (plan_at plan).objects ≡ (plan_at made).objects
        → let w = ask_table need plan nodes order 1 args in
        of (nodes_of w) (nodes_of (seen w)) (order_of w) (boxes_of (plan_in w))
        ≡ of (words_of_nodes nodes) (node_floats nodes) (order_words order) (boxes_of (plan_at made))
    unfolding boxes_of
    ask_reads of made sound e =
        let objects : (plan_in W).objects ≡ (plan_at plan).objects
        = objects_alone (plan_table 0 plan []) W (asked_same need plan nodes order 1 args)
        (rw e (sound_housed (plan_at made) sound)) in
        rw (ask_nodes, ask_floats, ask_order, objects, e)
