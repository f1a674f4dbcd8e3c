-- What the loop of `bvh_bins::fill_bins` keeps.
use Rattle.std.proofs.Common.{◌≡◌, length, drop}
use Rattle.bvh_range.specs.Inside.Table.{table_boxes}
use Rattle.bvh_range.specs.Range.{members}
use Rattle.bvh_bins.specs.Bins.{bins_from}
use Rattle.bvh_bins.specs.Inside.Sums.{binned}
use Rattle.bvh_bins.specs.Inside.Places.{Noted}
use Rattle.bvh_bins.specs.Inside.Sums.{AllNumbers}
use Rattle.bvh_bins.proofs.fill_bins.Given as goal

abbrev pub invariant-loop-i : goal.invariant-loop-i
invariant-loop-i l =
    (AllNumbers (table_boxes l.initial.b) →
    (bins_from l.g (binned l.b l.n) (members (table_boxes l.t) (drop l.i l.os)) ≡ bins_from l.g (binned l.initial.b l.initial.n)
    (members (table_boxes l.t) l.os)) × AllNumbers (table_boxes l.b)) ×
    (length l.places ≡ 256) × Noted (table_boxes l.t) l.g l.os l.places l.i
