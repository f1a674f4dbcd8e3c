-- What the loop of `bvh_check::check_order` keeps.
use Prim.Native.Nat.{◌≤◌, ◌-◌}
use mathlib.Core.Path.{◌≡◌}
use Rattle.bvh_rules.specs.Nodes.{order_of}
use Rattle.bvh_rules.specs.Inside.Steps.{marks_of, order_ok}
use Rattle.bvh_check.proofs.check_order.Given as goal

abbrev pub invariant-loop-i : goal.invariant-loop-i
invariant-loop-i l =
    (l.n ≤ 256) × (marks_of (order_of l.ws) l.n (l.n - l.i) l.i l.seen ≡ order_ok (order_of l.ws) l.n)
