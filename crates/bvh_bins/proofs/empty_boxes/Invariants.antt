-- What the loop of `bvh_bins::empty_boxes` keeps.
use Rattle.std.proofs.Common.{◌≡◌, length, take, replicate}
use Rattle.bvh_boxes.specs.Boxes.{nowhere}
use Rattle.bvh_range.specs.Inside.Table.{table_boxes}
use Rattle.bvh_bins.proofs.empty_boxes.Given as goal

abbrev pub invariant-loop-k : goal.invariant-loop-k
invariant-loop-k l = (length l.t ≡ length l.initial.t) × (take l.k (table_boxes l.t) ≡ replicate l.k nowhere)
