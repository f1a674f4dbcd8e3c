-- `wire_tree::build_stores` meets its contract: each way of its test is a case of `build_stores`. Assumes nothing.
use borrow.Author.Tests.{eq-eqb, ne_eqb}
use Rattle.wire_tree.specs.Trees.{build_stores}
use Rattle.wire_tree.proofs.build_stores.Goals as goal

pub returns-then-number-eq0 : goal.returns-then-number-eq0
unfolding build_stores
returns-then-number-eq0 c = simp (eq-eqb _ 0 c.if-number-eq0.true)

pub returns-else-number-eq0 : goal.returns-else-number-eq0
unfolding build_stores
returns-else-number-eq0 c = simp (ne_eqb _ 0 c.if-number-eq0.false)
