-- `wire_lengths::short` meets its contract, by that of `unless`. Assumes nothing.
use Rattle.wire_lengths.specs.Lengths.{short_number}
use Rattle.wire_lengths.proofs.short.Goals as goal

pub returns : goal.returns
unfolding short_number
returns c = rw c.unless.ensures
