-- What a build and an offer leave of the bytes that are lent.
use Rattle.std.specs.Prelude.{ℕ, ◌≡◌, Bool, cond, ◌||◌, List, [], length, eqb, Float}
use Rattle.words.specs.Words.{with_words}
use Rattle.refusals.specs.Refusals.{too_deep, lower}
use Rattle.plan.specs.Plan.{Plan, plan_of, seen}
use Rattle.bvh_build.specs.Tables.{size_of, nodes_with, order_with}
use Rattle.reply.specs.Reply.{one_word, reply_of}
use Rattle.wire.specs.Lent.{plan_table, ask_table}
use Rattle.wire_lengths.specs.Lengths.{tables_before, tree_tables_before}
use Rattle.wire.specs.Sent.{Sent}
use Rattle.bemitondry_tree.specs.Trees.{no_nodes, no_order, build_number, offer_number}
use Rattle.bemitondry_tree.specs.Trees.{judged_tree, size_in, offered_nodes, offered_order}

unfoldable pub build_stores : ℕ → Bool  -- "a build that ends in 7 leaves node and order tables all zero"
build_stores number = eqb number 0 || eqb number too_deep

abbrev pub built_words : ℕ → List ℕ → List ℕ → List ℕ
built_words number tree none = cond (eqb number 0) tree none

-- the number of a build of the plan p, its reply, and both tables
pub record BuildOn (number : ℕ) (p : Plan) (nodes order out : List ℕ) (n : ℕ) (nodes' order' out' : List ℕ)
    : Type 0 where
  pub sent : Sent (reply_of number (one_word (size_of p))) out n out'
  pub nodes_is
      : nodes' ≡ cond (build_stores number) (with_words nodes (built_words number (nodes_with p no_nodes) no_nodes)) nodes
  pub order_is
      : order' ≡ cond (build_stores number) (with_words order (built_words number (order_with p no_order) no_order)) order

abbrev pub build_plan : List ℕ → Plan
build_plan plan = plan_of (plan_table 0 plan []) (seen (plan_table 0 plan []))

abbrev pub BuildSent : List ℕ → List ℕ → List ℕ → List ℕ → ℕ → List ℕ → List ℕ → List ℕ → Type 0
BuildSent plan nodes order out n nodes' order' out' =
    BuildOn
    (build_number (tree_tables_before (length plan) (length nodes) (length order) 0 0 (length out)) (build_plan plan))
    (build_plan plan) nodes order out n nodes' order' out'

-- "An offered tree that is refused leaves the standing one"; w is the table that is loaded, the tree offered in it
pub record OfferOn (number : ℕ) (w : List ℕ) (f : List Float) (nodes order out : List ℕ) (n : ℕ)
    (nodes' order' out' : List ℕ) : Type 0 where
  pub sent : Sent (reply_of number (one_word (size_in (judged_tree w f)))) out n out'
  pub nodes_is : nodes' ≡ cond (eqb number 0) (with_words nodes (offered_nodes w f)) nodes
  pub order_is : order' ≡ cond (eqb number 0) (with_words order (offered_order w f)) order

abbrev pub offer_table : List ℕ → List ℕ → List ℕ → List ℕ
offer_table plan given ranks = ask_table 0 plan given ranks 1 []

abbrev pub offer_before : List ℕ → List ℕ → List ℕ → List ℕ → List ℕ → List ℕ → ℕ
offer_before plan nodes order given ranks out =
    lower (tree_tables_before (length plan) (length nodes) (length order) 0 0 (length out))
    (tables_before (length given) (length ranks))

abbrev pub OfferSent : List ℕ → List ℕ → List ℕ → List ℕ → List ℕ → List ℕ → ℕ → List ℕ → List ℕ → List ℕ → Type 0
OfferSent plan nodes order given ranks out n nodes' order' out' =
    OfferOn
    (offer_number (offer_before plan nodes order given ranks out) (offer_table plan given ranks)
    (seen (offer_table plan given ranks)))
    (offer_table plan given ranks) (seen (offer_table plan given ranks)) nodes order out n nodes' order' out'
