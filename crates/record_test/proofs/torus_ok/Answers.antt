-- `record_test::torus_ok` meets its contract, by those of its calls. Assumes nothing.
use Rattle.record_test.proofs.torus_ok.Goals as goal

pub returns : goal.returns
returns c =
    rw (c.both-2.ensures, c.both.ensures, c.radius-2.ensures)
    (rw (c.radius.ensures, c.coordinates.ensures))
