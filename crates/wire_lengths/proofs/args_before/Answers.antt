-- `wire_lengths::args_before` meets its contract, by those of its calls. Assumes nothing.
use Rattle.wire_lengths.specs.Lengths.{args_before}
use Rattle.wire_lengths.proofs.args_before.Goals as goal

pub returns : goal.returns
unfolding args_before
returns c = rw (c.lower.ensures, c.short-2.ensures, c.short.ensures)
