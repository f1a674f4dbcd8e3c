-- `wire_lengths::tree_tables_before` meets its contract, by those of its calls. Assumes nothing.
use Rattle.wire_lengths.specs.Lengths.{tree_tables_before}
use Rattle.wire_lengths.proofs.tree_tables_before.Goals as goal

pub returns : goal.returns
unfolding tree_tables_before
returns c =
    rw (c.lower.ensures, c.tables_before.ensures, c.plan_before.ensures)
