-- `refusals::lower` meets its contract. Assumes nothing.
use borrow.Author.Tests.{eq-eqb, ne_eqb}
use native.Mathlib.Omega.{arith}
use Rattle.refusals.specs.Refusals.{lower}
use Rattle.refusals.proofs.lower.Goals as goal

pub returns-then-a-eq0 : goal.returns-then-a-eq0
unfolding lower
returns-then-a-eq0 c = simp (eq-eqb _ 0 c.if-a-eq0.true)

pub returns-then-b-eq0 : goal.returns-then-b-eq0
unfolding lower
returns-then-b-eq0 c = simp (ne_eqb _ 0 c.if-a-eq0.false, eq-eqb _ 0 c.if-b-eq0.true)

pub returns-then-a-b : goal.returns-then-a-b
unfolding lower
returns-then-a-b c = simp (ne_eqb _ 0 c.if-a-eq0.false, ne_eqb _ 0 c.if-b-eq0.false) (omega arith)

pub returns-else-a-b : goal.returns-else-a-b
unfolding lower
returns-else-a-b c = simp (ne_eqb _ 0 c.if-a-eq0.false, ne_eqb _ 0 c.if-b-eq0.false) (omega arith)
