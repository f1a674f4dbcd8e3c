-- What the loop of `plan_near::nearest` keeps.
use mathlib.Core.Path.{◌≡◌}
use Rattle.plan.specs.Plan.{pieces_from}
use Rattle.plan.specs.Nearest.{nearest}
use Rattle.plan_near.proofs.nearest.Given as goal

abbrev pub invariant-loop-j : goal.invariant-loop-j
invariant-loop-j l = l.hit ≡ nearest (pieces_from l.ws l.fs l.r l.j) l.p l.initial.hit
