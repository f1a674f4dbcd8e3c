-- What the loop of `plan_write::put_cutters` keeps.
use mathlib.Core.Path.{◌≡◌}
use Rattle.plan_write.specs.Written.{put_cutters}
use Rattle.plan_write.proofs.put_cutters.Given as goal

abbrev pub invariant-loop-j : goal.invariant-loop-j
invariant-loop-j l = l.ws ≡ put_cutters l.initial.ws l.place l.j
