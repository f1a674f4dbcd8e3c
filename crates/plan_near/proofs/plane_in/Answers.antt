-- `plan_near::plane_in` meets its contract: a plane's row by its formula, any other by `piece_in`. Assumes nothing.
use mathlib.Core.Logic.{inl}
use Rattle.plan_near.proofs.Rows.{plane_row}
use Rattle.plan_near.proofs.plane_in.Goals as goal

pub returns-then-ws-i-eq0 : goal.returns-then-ws-i-eq0
returns-then-ws-i-eq0 c = let a = c.args in
    λ _. inl (plane_row a.ws.now a.fs.now a.r (record { x = a.x; y = a.y; z = a.z }) c.if-ws-i.true
    c.if-ws-i-eq0.true c.dot.result c.dot.ensures)
