-- `wire_lengths::plan_before` meets its contract, by those of its calls. Assumes nothing.
use Rattle.wire_lengths.specs.Lengths.{plan_before}
use Rattle.wire_lengths.proofs.plan_before.Goals as goal

pub returns : goal.returns
unfolding plan_before
returns c = rw (c.lower.ensures, c.args_before.ensures, c.short.ensures)
