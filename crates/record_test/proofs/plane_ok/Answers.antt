-- `record_test::plane_ok` meets its contract, by those of its calls. Assumes nothing.
use Rattle.record_test.proofs.plane_ok.Goals as goal

pub returns : goal.returns
returns c = rw (c.both.ensures, c.magnitude.ensures, c.within.ensures)
