-- `scalar::clamp` meets its contract. Assumes nothing.
use Rattle.scalar.specs.Extremes.{clamp_of}
use Rattle.scalar.proofs.clamp.Goals as goal

pub returns : goal.returns
unfolding clamp_of
returns c = rw (c.at_most.ensures, c.at_least.ensures)
