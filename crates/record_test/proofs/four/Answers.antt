-- `record_test::four` meets its contract: by what each call returns. Assumes nothing.
use Rattle.record_test.proofs.four.Goals as goal

pub returns : goal.returns
returns c = rw (c.both-3.ensures, c.both-2.ensures, c.both.ensures)
