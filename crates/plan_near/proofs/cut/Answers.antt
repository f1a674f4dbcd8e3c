-- `plan_near::cut` meets its contract: a cutter beyond its guard cuts nothing, and past the last row there is none.
-- Assumes nothing.
use mathlib.Core.Path.{sym, ◌∙◌}
use native.Mathlib.Omega.{arith}
use Rattle.plan_near.proofs.Rows.{cut_row, cutter_none}
use Rattle.plan_near.proofs.cut.Goals as goal

pub returns-then-r-lt-ROWS : goal.returns-then-r-lt-ROWS
returns-then-r-lt-ROWS c =
    let a = c.args in
    c.max.ensures ∙ cut_row a.ws.now a.fs.now a.r a.p a.left c.guard.result
    c.dist_in.result (c.dist_in.ensures (omega (arith, c.if-r-lt-ROWS.true))) c.guard.ensures

pub returns : goal.returns
returns c =
    let a = c.args in
    sym (cutter_none a.ws.now a.fs.now (omega arith) (omega arith)
    a.r c.if-r-lt-ROWS.false a.p a.left)
