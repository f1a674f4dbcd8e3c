-- `wire_lengths::ask_before` meets its contract, by those of its calls. Assumes nothing.
use Rattle.wire_lengths.specs.Lengths.{ask_before}
use Rattle.wire_lengths.proofs.ask_before.Goals as goal

pub returns : goal.returns
unfolding ask_before
returns c = rw (c.lower.ensures, c.tree_before.ensures, c.plan_before.ensures)
