-- `plan_near::nearest` meets its contract: the hit is the best of the pieces passed. Assumes nothing.
use mathlib.Core.Path.{◌≡◌, sym}
use native.Mathlib.Omega.{arith}
use Rattle.plan.proofs.Lists.{nearest_none, nearest_more}
use Rattle.plan_near.proofs.nearest.Goals as goal

pub loop-j-init : goal.loop-j-init
loop-j-init c =
    let a = c.args in
    nearest_none a.ws.now a.fs.now a.r a.p a.best

pub loop-j-preserved : goal.loop-j-preserved
loop-j-preserved c = rw (nearest_more, c.plane_nearer-hit.ensures) (rw c.loop-j.invariant)

pub returns : goal.returns
returns c =
    let e : c.loop-j.j ≡ c.args.n = omega arith in
    rw (sym e) c.loop-j.invariant
