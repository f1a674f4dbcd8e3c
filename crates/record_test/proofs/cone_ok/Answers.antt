-- `record_test::cone_ok` meets its contract, by those of its calls. Assumes nothing.
use Rattle.record_test.proofs.cone_ok.Goals as goal

pub returns : goal.returns
returns c =
    rw (c.both-3.ensures, c.both-2.ensures, c.both.ensures, c.radius-2.ensures)
    (rw (c.radius.ensures, c.coordinates-2.ensures, c.coordinates.ensures))
