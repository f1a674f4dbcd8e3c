-- `plan_test::place_right` meets its contract. Assumes nothing.
use Prim.Native.Nat.{◌+◌}
use native.Mathlib.Omega.{arith}
use borrow.Author.Tests.{ne_eqb}
use Rattle.plan_test.proofs.place_right.Goals as goal

pub returns-then-before : goal.returns-then-before
returns-then-before c =
    let a = c.args in
    rw (c.if-planes.true, ne_eqb (a.place + (a.before + a.cutters)) 1024 (λ e. omega arith))

pub returns-then-planes : goal.returns-then-planes
returns-then-planes c = simp c.if-planes.true

pub returns : goal.returns
returns c = simp c.if-planes.false
