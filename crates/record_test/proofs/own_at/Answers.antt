-- `record_test::own_at` meets its contract: by the words read, past the last row by the piece made. Assumes nothing.
use native.Mathlib.Omega.{arith}
use Rattle.plan.proofs.Lists.{head_row, head_shape}
use Rattle.record_test.specs.Numbers.{own_number}
use Rattle.record_test.proofs.own_at.Goals as goal

pub returns-then-r-lt-ROWS : goal.returns-then-r-lt-ROWS
unfolding own_number
returns-then-r-lt-ROWS c =
    let low = c.if-r-lt-ROWS.true in
    rw (head_row, c.own_of.ensures, c.radius.ensures)
    (rw (c.prim_at-prim.ensures (omega (arith, low)), head_shape))

pub returns : goal.returns
returns c = rw (c.own_number.ensures, c.head_at.ensures)
