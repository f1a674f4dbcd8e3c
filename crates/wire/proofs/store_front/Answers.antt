-- `wire::store_front` meets its contract: the part that is stored is the first words. Assumes nothing.
use mathlib.Core.Path.{sym}
use lib.Seq.{length-take-le}
use borrow.Author.Tests.{le-leb, lt-leb}
use Rattle.wire.specs.Inside.Parts.{stored_front}
use Rattle.wire.proofs.store_front.Goals as goal

pub slice_bounds-store-end : goal.slice_bounds-store-end
slice_bounds-store-end c =
    let a = c.args in sym (length-take-le a.n a.ws.now c.if-n-ws.true)

pub returns-then-n-ws : goal.returns-then-n-ws
unfolding stored_front
returns-then-n-ws c =
    simp (le-leb _ _ c.if-n-ws.true) c.store.ensures

pub returns-else-n-ws : goal.returns-else-n-ws
unfolding stored_front
returns-else-n-ws c = simp (lt-leb _ _ c.if-n-ws.false)
