-- `record_test::ends_ok` meets its contract, by those of its calls. Assumes nothing.
use Rattle.record_test.proofs.ends_ok.Goals as goal

pub returns : goal.returns
returns c =
    rw (c.both-2.ensures, c.both.ensures, c.radius.ensures)
    (rw (c.coordinates-2.ensures, c.coordinates.ensures))
