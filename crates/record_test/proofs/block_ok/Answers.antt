-- `record_test::block_ok` meets its contract, by those of its calls. Assumes nothing.
use Rattle.record_test.proofs.block_ok.Goals as goal

pub returns : goal.returns
returns c =
    rw (c.both-2.ensures, c.both.ensures, c.radius.ensures)
    (rw (c.within_up_to.ensures, c.coordinates.ensures))
