-- What a build and an offer on loaded tables leave is what the promise says of the lent bytes. Assumes nothing.
use Prim.Native.Nat.{ℕ}
use mathlib.Core.Path.{◌≡◌, refl, ◌∙◌, ap}
use mathlib.Core.Bool.{Bool, true, false, cond}
use mathlib.Core.List.{List}
use lib.Dec.{eqb}
use lib.Ieee.{Float}
use Rattle.words.specs.Words.{with_words}
use Rattle.refusals.specs.Refusals.{lower}
use Rattle.plan.specs.Plan.{Plan, plan_of, seen}
use Rattle.bvh_build.specs.Tables.{size_of}
use Rattle.reply.specs.declared.Reply.{Reply}
use Rattle.wire.specs.Sent.{Sent}
use Rattle.wire.specs.Inside.Parts.{stored_table}
use Rattle.wire.proofs.Replies.{sent_as, number_of}
use Rattle.bemitondry_tree.specs.Trees.{build_number, offer_number, judged_tree, size_in}
use Rattle.bemitondry_tree.specs.Inside.Leaves.{BuildLeaves, OfferLeaves}
use Rattle.wire_tree.specs.Trees.{build_stores, BuildOn, OfferOn}

-- ---- tables that are stored where a test holds
pub stored_then : (b : Bool) (w x x' : List ℕ) → b ≡ true → x' ≡ with_words x w → x' ≡ stored_table b w x
unfolding stored_table
stored_then b w x x' e h = rw e h

pub stored_else : (b : Bool) (w x x' : List ℕ) → b ≡ false → x' ≡ x → x' ≡ stored_table b w x
unfolding stored_table
stored_else b w x x' e h = rw e h

-- ---- a build
pub build_sent : (before b : ℕ) (w t : List ℕ) (f : List Float) (r : Reply) (nw ow nodes order out : List ℕ) (stores : Bool) (n : ℕ) (nodes' order' out' : List ℕ)
    → (w ≡ t) × (f ≡ seen w) → before ≡ b
    → BuildLeaves before (plan_of w f) r nw ow
    → stores ≡ build_stores r.number
    → nodes' ≡ stored_table stores nw nodes
    → order' ≡ stored_table stores ow order
    → Sent r out n out'
    → BuildOn (build_number b (plan_of t (seen t))) (plan_of t (seen t)) nodes order out n nodes' order' out'
unfolding stored_table
build_sent before b w t f r nw ow nodes order out stores n nodes' order' out' l eb e es hn ho s =
    let p : Plan = plan_of w f in
    let k = number_of r (build_number before p) (size_of p) e.reply in
    let st : stores ≡ build_stores (build_number before p) = es ∙ ap build_stores k in
    rw (← l.0, ← l.1, ← eb)
    (record {
      sent = sent_as e.reply s;
      nodes_is = hn ∙ rw (st, e.nodes);
      order_is = ho ∙ rw (st, e.order);
    })

-- ---- an offer
written : (n : ℕ) (x y b : List ℕ) → cond (eqb n 0) (with_words b (cond (eqb n 0) x y)) b ≡ cond (eqb n 0) (with_words b x) b
written n x y b = go (eqb n 0)
  where
    go : (c : Bool) → cond c (with_words b (cond c x y)) b ≡ cond c (with_words b x) b
    go true = refl
    go false = refl

pub offer_sent : (before b : ℕ) (w t : List ℕ) (f : List Float) (r : Reply) (nw ow nodes order out : List ℕ) (n : ℕ) (nodes' order' out' : List ℕ)
    → (w ≡ t) × (f ≡ seen w) → before ≡ b
    → OfferLeaves before w f r nw ow
    → nodes' ≡ stored_table (eqb r.number 0) nw nodes
    → order' ≡ stored_table (eqb r.number 0) ow order
    → Sent r out n out'
    → OfferOn (offer_number b t (seen t)) t (seen t) nodes order out n nodes' order' out'
unfolding stored_table
offer_sent before b w t f r nw ow nodes order out n nodes' order' out' l eb e hn ho s =
    let k = number_of r (offer_number before w f) (size_in (judged_tree w f)) e.reply in
    rw (← l.0, ← l.1, ← eb)
    (record {
      sent = sent_as e.reply s;
      nodes_is = hn ∙ rw (k, e.nodes) (written (offer_number before w f) _ _ nodes);
      order_is = ho ∙ rw (k, e.order) (written (offer_number before w f) _ _ order);
    })

-- the lower of two numbers that are what they should be
pub lower_as : (n a b a' b' : ℕ) → n ≡ lower a b → a ≡ a' → b ≡ b' → n ≡ lower a' b'
lower_as n a b a' b' e p q = rw (← p, ← q) e
