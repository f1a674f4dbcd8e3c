-- `wire_entry::enter` meets its contract: what the entry leaves is stored and sent. Assumes nothing.
use mathlib.Core.Path.{◌≡◌, ◌∙◌}
use lib.Dec.{eqb}
use Rattle.wire.specs.Inside.Parts.{stored_plan}
use Rattle.wire_entry.proofs.Leaves.{stored_then, stored_else, entry_sent}
use Rattle.wire_entry.proofs.enter.Goals.{then-r-eq0, else-r-eq0}
use Rattle.wire_entry.proofs.enter.Goals as goal

pub returns : goal.returns
returns g c =
    let e = g.E.Entry in
    let a = c.args in
    let r = c.enter-r in
    let stored : c.if-r-eq0.plan ≡ stored_plan (eqb r.result.number 0) r.new.ws a.plan.now
    = elim c.if-r-eq0.branch [
      | then-r-eq0 w ↦ stored_then _ _ _ _ w.if-r-eq0.true (w.plan-is ∙ w.store_plan.ensures)
      | else-r-eq0 w ↦ stored_else _ _ _ _ w.if-r-eq0.false w.plan-is
    ] in
    entry_sent (e.number a.entry a.before) (e.index a.entry) (e.left a.entry) _ _ _ _ _ _ _ _ _ _ c.load_plan.ensures
    r.ensures stored c.send.ensures
