-- `wire::vec_at` meets its contract, by that of `float_at`. Assumes nothing.
use Rattle.wire.specs.Lent.{given_vec}
use Rattle.wire.proofs.vec_at.Goals as goal

pub returns : goal.returns
unfolding given_vec
returns c = rw (c.float_at-3.ensures, c.float_at-2.ensures, c.float_at.ensures)
