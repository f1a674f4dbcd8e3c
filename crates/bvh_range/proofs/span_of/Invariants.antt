-- What the loop of `bvh_range::span_of` keeps.
use mathlib.Core.Path.{◌≡◌}
use lib.ListN.{drop}
use Rattle.bvh_range.specs.Inside.Table.{table_boxes, box_of_row}
use Rattle.bvh_range.specs.Inside.Numbers.{Numbers}
use Rattle.bvh_range.specs.Range.{members, span_from, span_of}
use Rattle.bvh_range.proofs.span_of.Given as goal

abbrev pub invariant-loop-o : goal.invariant-loop-o
invariant-loop-o l =
    (span_from (record { hull = box_of_row l.hull; centres = box_of_row l.centres }) (members (table_boxes l.t) (drop l.o-index l.os))
    ≡ span_of (table_boxes l.t) l.os) ×
    Numbers (box_of_row l.hull) × Numbers (box_of_row l.centres)
