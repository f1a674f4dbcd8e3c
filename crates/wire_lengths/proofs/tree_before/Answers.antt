-- `wire_lengths::tree_before` meets its contract: each return is a case of `tree_before`. Assumes nothing.
use borrow.Author.Tests.{eq-eqb, ne_eqb}
use Rattle.wire_lengths.specs.Lengths.{tree_before}
use Rattle.wire_lengths.proofs.tree_before.Goals as goal

pub returns-then-tree-eq1 : goal.returns-then-tree-eq1
unfolding tree_before
returns-then-tree-eq1 c = simp (eq-eqb _ 1 c.if-tree-eq1.true) c.tables_before.ensures

pub returns-else-tree-eq1 : goal.returns-else-tree-eq1
unfolding tree_before
returns-else-tree-eq1 c = simp (ne_eqb _ 1 c.if-tree-eq1.false) c.unless.ensures
