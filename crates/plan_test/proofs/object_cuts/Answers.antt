-- `plan_test::object_cuts` meets its contract: each return is a case of its tests. Assumes nothing.
use borrow.Author.Tests.{le-leb, lt-leb}
use Rattle.plan_test.proofs.object_cuts.Goals as goal

pub returns-then-used : goal.returns-then-used
returns-then-used c = rw (c.if-placed.true, le-leb _ 1024 c.if-used.true) c.cuts_number.ensures

pub returns-then-placed : goal.returns-then-placed
returns-then-placed c = rw (c.if-placed.true, lt-leb _ 1024 c.if-used.false)
