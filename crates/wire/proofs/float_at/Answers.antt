-- `wire::float_at` meets its contract, by those of its calls. Assumes nothing.
use Rattle.wire.specs.Lent.{given_float}
use Rattle.wire.proofs.float_at.Goals as goal

pub returns : goal.returns
unfolding given_float
returns c = rw (c.float.ensures, c.word.ensures)
