-- `plan::vec_at` meets its contract, by that of `float_in`, and past the last row since the table ends there. Assumes
-- nothing.
use native.Mathlib.Omega.{arith}
use Rattle.plan.proofs.Lists.{vec_past}
use Rattle.plan.proofs.vec_at.Goals as goal

pub returns-then-r-lt-ROWS : goal.returns-then-r-lt-ROWS
returns-then-r-lt-ROWS c = rw (c.float_in-then-r-lt-ROWS-2.ensures, c.float_in-then-r-lt-ROWS.ensures, c.float_in.ensures)

pub returns : goal.returns
returns c =
    let a = c.args in
    rw (vec_past a.fs.now (omega arith) a.r a.k c.if-r-lt-ROWS.false)
    c.no_vec.ensures
