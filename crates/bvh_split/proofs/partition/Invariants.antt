-- What the loop of `bvh_split::partition` keeps.
use Prim.Native.Nat.{ℕ, ◌≤◌, ◌-◌}
use mathlib.Core.Path.{◌≡◌}
use lib.ListN.{length, get_or}
use Rattle.bvh_range.specs.Inside.Table.{table_boxes}
use Rattle.bvh_bins.specs.Inside.Places.{Noted}
use Rattle.bvh_split.specs.Part.{part_from, parted}
use Rattle.bvh_split.proofs.partition.Given as goal

abbrev pub invariant-loop-i : goal.invariant-loop-i
invariant-loop-i l =
    (l.mid ≤ l.i) × (length l.os ≡ length l.initial.os) ×
    ((j : ℕ) → l.i ≤ j → get_or l.os j 0 ≡ get_or l.initial.os j 0) ×
    (Noted (table_boxes l.t) l.g l.initial.os l.places (length l.initial.os)
    → part_from (table_boxes l.t) l.g l.split (length l.initial.os - l.i) l.i l.mid l.os ≡ parted (table_boxes l.t) l.g l.split l.initial.os)
