-- `wire_lengths::tables_before` meets its contract, by those of its calls. Assumes nothing.
use Rattle.wire_lengths.specs.Lengths.{tables_before}
use Rattle.wire_lengths.proofs.tables_before.Goals as goal

pub returns : goal.returns
unfolding tables_before
returns c = rw (c.lower.ensures, c.short-2.ensures, c.short.ensures)
