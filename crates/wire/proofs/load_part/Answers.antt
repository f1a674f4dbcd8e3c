-- `wire::load_part` meets its contract: the part that is lent becomes the table's words, where it lies inside. Assumes
-- nothing.
use native.Mathlib.Omega.{arith}
use borrow.Author.Tests.{le-leb, lt-leb}
use Rattle.wire.specs.Inside.Parts.{loaded_part}
use Rattle.wire.proofs.Loads.{part_put}
use Rattle.wire.proofs.load_part.Goals.{else-to-ws-via-then-to-ws+else-from-to, else-to-ws-via-else-to-ws}
use Rattle.wire.proofs.load_part.Goals as goal

pub returns-then-from-to : goal.returns-then-from-to
returns-then-from-to c =
    let a = c.args in
    part_put _ a.ws.now _ a.from a.to (omega arith) (omega arith) c.load.ensures

pub returns-else-to-ws : goal.returns-else-to-ws
unfolding loaded_part
returns-else-to-ws c = elim c.else-to-ws.branch [
  | else-to-ws-via-then-to-ws+else-from-to w ↦ simp (le-leb _ _ w.if-to-ws.true, lt-leb _ _ w.if-from-to.false)
  | else-to-ws-via-else-to-ws w ↦ simp (lt-leb _ _ w.if-to-ws.false)
]
