-- `plan_near::plane_nearer` meets its contract: by what the distance tells, and past the last row there is no piece.
-- Assumes nothing.
use native.Mathlib.Omega.{arith}
use Rattle.plan_near.proofs.Rows.{row_nearer}
use Rattle.plan_near.proofs.plane_nearer.Goals as goal

pub returns : goal.returns
returns c =
    let a = c.args in
    row_nearer a.ws.now a.fs.now (omega arith) (omega arith) a.r a.p a.best
    c.plane_in.result c.plane_in.ensures c.nearer_of.result c.nearer_of.ensures
