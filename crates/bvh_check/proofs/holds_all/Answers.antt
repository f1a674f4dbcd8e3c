-- `bvh_check::holds_all` meets its contract: what was passed lies within b. Assumes nothing.
use mathlib.Core.Path.{◌≡◌, sym, ◌∙◌}
use native.Mathlib.Omega.{arith}
use Rattle.plan.specs.Plan.{plan_of}
use Rattle.bvh_boxes.specs.Boxes.{boxes_of}
use Rattle.bvh_rules.specs.Nodes.{order_of}
use Rattle.bvh_rules.proofs.Lists.{holds_none, holds_more}
use Rattle.bvh_rules.proofs.Tests.{holds_not}
use Rattle.bvh_check.proofs.holds_all.Goals as goal

pub loop-j-init : goal.loop-j-init
loop-j-init c =
    let a = c.args in
    holds_none (order_of a.ws.now) (boxes_of (plan_of a.ws.now a.fs.now)) a.b a.start

pub returns-then-not-held : goal.returns-then-not-held
returns-then-not-held c =
    let out = sym c.held.ensures ∙ c.if-not-held.true in
    sym (holds_not _ _ _ _ _ _ c.loop-j-test.true out)

pub loop-j-preserved : goal.loop-j-preserved
loop-j-preserved c =
    rw (holds_more, sym c.held.ensures, sym c.loop-j.invariant)
    (sym c.if-not-held.false)

pub returns : goal.returns
returns c =
    let e : c.loop-j.j ≡ c.args.count = omega arith in
    rw (sym e) c.loop-j.invariant
