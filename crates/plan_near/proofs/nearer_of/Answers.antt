-- `plan_near::nearer_of` meets its contract, by its tests. Assumes nothing.
use mathlib.Core.Path.{refl}
use native.Mathlib.Omega.{arith}
use Rattle.plan_near.proofs.nearer_of.Goals as goal

pub returns-then-d-best : goal.returns-then-d-best
returns-then-d-best c = (λ _. rw c.if-d-best.true, λ g. let no : ⊥ = omega (arith, g, c.if-r-lt-ROWS.true) in absurd no)

pub returns-else-d-best : goal.returns-else-d-best
returns-else-d-best c = (λ _. rw c.if-d-best.false, λ g. refl)

pub returns-else-r-lt-ROWS : goal.returns-else-r-lt-ROWS
returns-else-r-lt-ROWS c = (λ k. let no : ⊥ = omega (arith, k, c.if-r-lt-ROWS.false) in absurd no, λ g. refl)
