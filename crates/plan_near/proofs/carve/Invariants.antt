-- What the loop of `plan_near::carve` keeps.
use mathlib.Core.Path.{◌≡◌}
use Prim.Native.Nat.{◌+◌}
use Rattle.plan.specs.Plan.{cuts_by}
use Rattle.plan.specs.Nearest.{carve}
use Rattle.plan_near.proofs.carve.Given as goal

abbrev pub invariant-loop-j : goal.invariant-loop-j
invariant-loop-j l = l.left ≡ carve (cuts_by l.ws l.fs (369 + l.place) l.j) l.p l.d
