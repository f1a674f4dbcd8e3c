-- What the loop of `root::steps` keeps.
use Rattle.std.proofs.Common.{◌*◌, ◌^◌, ◌<◌}
use Rattle.root.specs.Inside.Steps.{Remains}
use Rattle.root.proofs.steps.Given as goal

abbrev pub invariant-loop-k : goal.invariant-loop-k
invariant-loop-k l = l.m < 33554432 → Remains (l.m * 33554432) l.r.left l.r.twice (2 ^ l.k)
