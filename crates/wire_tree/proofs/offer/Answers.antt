-- `wire_tree::offer` meets its contract: an accepted tree is stored, and the reply sent. Assumes nothing.
use Prim.Native.Nat.{ℕ}
use mathlib.Core.Path.{◌≡◌, ◌∙◌, ap}
use mathlib.Core.List.{List}
use lib.Dec.{eqb}
use borrow.Author.Tests.{eq-eqb, ne_eqb}
use Rattle.wire.specs.Lent.{ask_table}
use Rattle.wire.specs.Inside.Parts.{stored_table}
use Rattle.wire_tree.proofs.Leaves.{stored_then, stored_else, lower_as, offer_sent}
use Rattle.wire_tree.proofs.offer.Goals.{then-r-eq0, else-r-eq0}
use Rattle.wire_tree.proofs.offer.Goals as goal

pub returns : goal.returns
returns c =
    let z = c.args in
    let t = c.load_ask.ensures in
    let none = ap (λ (x : List ℕ). ask_table 0 z.plan.now z.given.now z.ranks.now 1 x) c.none.ensures in
    let number = lower_as _ _ _ _ _ c.lower-n.ensures c.tree_tables_before.ensures c.tables_before.ensures in
    let r = c.offer-r in
    let left = c.if-r-eq0 in
    let nodes : left.nodes ≡ stored_table (eqb r.result.number 0) r.new.nw z.nodes.now
    = elim left.branch [
      | then-r-eq0 w ↦ stored_then _ _ _ _ (eq-eqb _ 0 w.if-r-eq0.true) (w.nodes-is ∙ w.store.ensures)
      | else-r-eq0 w ↦ stored_else _ _ _ _ (ne_eqb _ 0 w.if-r-eq0.false) w.nodes-is
    ] in
    let order : left.order ≡ stored_table (eqb r.result.number 0) r.new.ow z.order.now
    = elim left.branch [
      | then-r-eq0 w ↦ stored_then _ _ _ _ (eq-eqb _ 0 w.if-r-eq0.true) (w.order-is ∙ w.store-then-r-eq0.ensures)
      | else-r-eq0 w ↦ stored_else _ _ _ _ (ne_eqb _ 0 w.if-r-eq0.false) w.order-is
    ] in
    offer_sent _ _ _ _ _ _ _ _ _ _ _ _ _ _ _ (t.0 ∙ none, t.1) number r.ensures nodes order c.send.ensures
