-- `root_tests::limit` meets its contract: each return is a case of `limit_of`. Assumes nothing.
use lib.Ieee.{of_bits, div}
use Rattle.root_tests.specs.Inside.Tests.{limit_of}
use Rattle.root_tests.proofs.limit.Goals as goal

pub returns-then-d : goal.returns-then-d
unfolding limit_of
returns-then-d c = rw c.if-d.true c.bar.ensures

pub returns-then-d-2 : goal.returns-then-d-2
unfolding limit_of of_bits
returns-then-d-2 c = rw (c.if-d.false, c.if-d-2.true)

pub returns : goal.returns
unfolding limit_of of_bits div
returns c = rw (c.if-d.false, c.if-d-2.false)
