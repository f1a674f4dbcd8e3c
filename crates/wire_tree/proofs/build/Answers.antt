-- `wire_tree::build` meets its contract: both tables are stored, and the reply sent. Assumes nothing.
use Prim.Native.Nat.{ℕ}
use mathlib.Core.Path.{◌≡◌, ◌∙◌, ap}
use mathlib.Core.List.{List}
use Rattle.wire.specs.Lent.{plan_table}
use Rattle.wire.specs.Inside.Parts.{stored_table}
use Rattle.wire_tree.proofs.Leaves.{stored_then, stored_else, build_sent}
use Rattle.wire_tree.proofs.build.Goals.{then-build_stores, else-build_stores}
use Rattle.wire_tree.proofs.build.Goals as goal

pub returns : goal.returns
returns c =
    let t = c.load_plan.ensures in
    let none = ap (λ (x : List ℕ). plan_table 0 c.args.plan.now x) c.none.ensures in
    let b = c.build_stores.result in
    let left = c.if-build_stores in
    let nodes : left.nodes ≡ stored_table b c.build-r.new.nw c.args.nodes.now
    = elim left.branch [
      | then-build_stores w ↦ stored_then _ _ _ _ w.if-build_stores.true (w.nodes-is ∙ w.store.ensures)
      | else-build_stores w ↦ stored_else _ _ _ _ w.if-build_stores.false w.nodes-is
    ] in
    let order : left.order ≡ stored_table b c.build-r.new.ow c.args.order.now
    = elim left.branch [
      | then-build_stores w ↦
          stored_then _ _ _ _ w.if-build_stores.true (w.order-is ∙ w.store-then-build_stores.ensures)
      | else-build_stores w ↦ stored_else _ _ _ _ w.if-build_stores.false w.order-is
    ] in
    build_sent _ _ _ _ _ _ _ _ _ _ _ _ _ _ _ _ (t.0 ∙ none, t.1) c.tree_tables_before-n.ensures
    c.build-r.ensures c.build_stores.ensures nodes order c.send.ensures
