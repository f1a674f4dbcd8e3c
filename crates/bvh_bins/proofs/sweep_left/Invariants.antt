-- What the loop of `bvh_bins::sweep_left` keeps.
use Rattle.std.proofs.Common.{◌≡◌, length, take}
use Rattle.words.specs.Lists.{list_from}
use Rattle.bvh_bins.specs.Bins.{left_box, left_count}
use Rattle.bvh_bins.specs.Inside.Sums.{binned, left_at}
use Rattle.bvh_bins.proofs.sweep_left.Given as goal

abbrev pub invariant-loop-i : goal.invariant-loop-i
invariant-loop-i l =
    (length l.lefts ≡ 12) × (l.hull ≡ left_box (binned l.b l.n) l.i) ×
    (l.count ≡ left_count (binned l.b l.n) l.i) × (take l.i l.lefts ≡ list_from (left_at (binned l.b l.n)) 0 l.i)
