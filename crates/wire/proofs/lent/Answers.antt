-- `wire::lent` meets its contract: each return is a case of `lent_of`. Assumes nothing.
use borrow.Author.Tests.{le-leb, lt-leb}
use Rattle.wire.specs.Lent.{lent_of}
use Rattle.wire.proofs.lent.Goals as goal

pub returns-then-full-t : goal.returns-then-full-t
unfolding lent_of
returns-then-full-t c = simp (le-leb _ _ c.if-full-t.true)

pub returns-else-full-t : goal.returns-else-full-t
unfolding lent_of
returns-else-full-t c = simp (lt-leb _ _ c.if-full-t.false) c.none.ensures
