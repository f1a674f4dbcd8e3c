-- What the loop of `bvh_check::holds_all` keeps.
use mathlib.Core.Path.{◌≡◌}
use mathlib.Core.Bool.{true}
use Rattle.plan.specs.Plan.{plan_of}
use Rattle.bvh_boxes.specs.Boxes.{boxes_of}
use Rattle.bvh_rules.specs.Nodes.{order_of}
use Rattle.bvh_rules.specs.Inside.Steps.{holds_all}
use Rattle.bvh_check.proofs.holds_all.Given as goal

abbrev pub invariant-loop-j : goal.invariant-loop-j
invariant-loop-j l = true ≡ holds_all (order_of l.ws) (boxes_of (plan_of l.ws l.fs)) l.b l.start l.j
