-- `wire::store_plan` meets its contract: a call's table has the plan's words. Assumes nothing.
use native.Mathlib.Omega.{arith}
use borrow.Author.Tests.{le-leb}
use Prim.Native.Nat.{◌≤◌}
use mathlib.Core.Path.{◌≡◌, ◌∙◌}
use mathlib.Core.Bool.{true}
use lib.ListN.{length}
use Rattle.wire.specs.Inside.Parts.{stored_front, stored_plan}
use Rattle.wire.proofs.store_plan.Goals as goal

pub returns : goal.returns
unfolding stored_plan stored_front
returns c =
    let ws = c.args.ws.now in
    let b = c.args.b.now in
    let long : 22288 ≤ length ws = omega arith in
    let whole : stored_front ws 22288 b ≡ stored_plan true ws b = simp (le-leb 22288 _ long) in
    c.store_front.ensures ∙ whole
