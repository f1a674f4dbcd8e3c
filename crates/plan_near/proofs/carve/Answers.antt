-- `plan_near::carve` meets its contract: what is left is d with the cutters passed taken away, and where that is no
-- less than the bound, more cutters make it no less. Assumes nothing.
use mathlib.Core.Path.{◌≡◌, sym, refl}
use mathlib.Core.Logic.{inl, inr}
use Prim.Native.Nat.{◌+◌}
use native.Mathlib.Omega.{arith}
use lib.Dec.{T}
use lib.Ieee.{le}
use Rattle.float_order.proofs.Order.{yes_of}
use Rattle.plan.specs.Plan.{cuts_by}
use Rattle.plan.specs.Nearest.{carve}
use Rattle.plan.proofs.Lists.{carve_none, carve_more}
use Rattle.plan_near.proofs.Near.{carve_stops}
use Rattle.plan_near.proofs.carve.Goals as goal

pub loop-j-init : goal.loop-j-init
loop-j-init c = let a = c.args in carve_none a.ws.now a.fs.now (369 + a.place) a.p a.d

pub returns-then-best-left : goal.returns-then-best-left
returns-then-best-left c =
    let a = c.args in
    let now : T (le a.best (carve (cuts_by a.ws.now a.fs.now (369 + a.place) (c.loop-j.j + 1)) a.p
    a.d))
    = rw (carve_more, sym c.loop-j.invariant, sym c.cut-left.ensures) (yes_of c.if-best-left.true) in
    inr (
      refl,
      carve_stops a.ws.now a.fs.now (369 + a.place) a.p a.best a.d (c.loop-j.j + 1) a.n
          (omega arith) now,
    )

pub loop-j-preserved : goal.loop-j-preserved
loop-j-preserved c = rw (carve_more, c.cut-left.ensures) (rw c.loop-j.invariant)

pub returns : goal.returns
returns c =
    let e : c.loop-j.j ≡ c.args.n = omega arith in
    inl (rw (sym e) c.loop-j.invariant)
