-- `refusals::prim_number` meets its contract. Assumes nothing.
use Rattle.refusals.specs.Prims.{prim_number}
use Rattle.refusals.proofs.prim_number.Goals as goal

pub returns : goal.returns
unfolding prim_number
returns c =
    rw (c.lower.ensures, c.unless-2.ensures, c.flat.ensures, c.unless.ensures, c.both.ensures)
    (rw c.shape_ok.ensures)
