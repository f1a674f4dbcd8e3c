-- `wire::used` meets its contract: each return is a case of `used_of`. Assumes nothing.
use borrow.Author.Tests.{eq-eqb, ne_eqb}
use Rattle.wire.specs.Lent.{used_of}
use Rattle.wire.proofs.used.Goals as goal

pub returns-then-tree-eq1 : goal.returns-then-tree-eq1
unfolding used_of
returns-then-tree-eq1 c = simp (eq-eqb _ 1 c.if-tree-eq1.true) c.lent.ensures

pub returns-else-tree-eq1 : goal.returns-else-tree-eq1
unfolding used_of
returns-else-tree-eq1 c = simp (ne_eqb _ 1 c.if-tree-eq1.false) c.none.ensures
