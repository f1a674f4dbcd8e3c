-- What the loop of `bvh_bins::sweep_right` keeps: the splits from i on are tried.
use Rattle.std.proofs.Common.{◌≡◌, ◌-◌, ◌<◌}
use Rattle.words.specs.Lists.{list_from}
use Rattle.bvh_range.specs.Inside.Numbers.{Numbers}
use Rattle.bvh_bins.specs.Bins.{no_sweep, sweep_from}
use Rattle.bvh_bins.specs.Inside.Sums.{binned, left_at}
use Rattle.bvh_bins.proofs.sweep_right.Given as goal

abbrev pub invariant-loop-i : goal.invariant-loop-i
invariant-loop-i l =
    (0 < l.i) ×
    (l.lefts ≡ list_from (left_at (binned l.b l.n)) 0 12
    → sweep_from (binned l.b l.n) (l.i - 1) l.s ≡ sweep_from (binned l.b l.n) 11 no_sweep) × Numbers l.s.hull
