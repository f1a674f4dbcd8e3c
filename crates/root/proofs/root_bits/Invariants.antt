-- What the loops of `root::root_bits` keep, and what falls.
use Rattle.std.proofs.Common.{◌-◌, ◌*◌, ◌<◌, ◌≤◌}
use Rattle.root.specs.Inside.Steps.{Scaled}
use Rattle.root.proofs.root_bits.Given as goal

abbrev pub invariant-loop-m : goal.invariant-loop-m
invariant-loop-m l = Scaled l.b (l.m * 33554432) l.j × (0 < l.m) × (l.m < 33554432) × (l.j ≤ 190)

abbrev pub decreases-loop-m : goal.decreases-loop-m
decreases-loop-m l = 8388608 - l.m
