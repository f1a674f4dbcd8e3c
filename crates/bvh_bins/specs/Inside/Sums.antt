-- The bins and the left sums as the code holds them, and bins whose corners are all numbers.
use Rattle.std.specs.Prelude.{ℕ, suc, ◌≤◌, List, Float}
use Rattle.sdf.specs.declared.Aabb.{Aabb}
use Rattle.bvh_boxes.specs.Boxes.{box_at}
use Rattle.bvh_range.specs.Inside.Table.{table_boxes}
use Rattle.bvh_range.specs.Inside.Numbers.{Numbers}
use Rattle.bvh_bins.specs.declared.Left.{Left}
use Rattle.bvh_bins.specs.Bins.{Bins, area, left_box, left_count}

abbrev pub binned : List Float → List ℕ → Bins
binned f n = record { boxes = table_boxes f; counts = n }

abbrev pub AllNumbers : List Aabb → Type 0
AllNumbers bs = (k : ℕ) → k ≤ 11 → Numbers (box_at bs k)

unfoldable pub left_area : Bins → ℕ → Float
left_area σ i = area (left_box σ (suc i))

unfoldable pub left_through : Bins → ℕ → ℕ
left_through σ i = left_count σ (suc i)

abbrev pub left_at : Bins → ℕ → Left
left_at σ i = record { area = left_area σ i; count = left_through σ i }
