-- "Partition by the source's swaps. A split with an empty side becomes count/2."
use Rattle.std.specs.Prelude.{ℕ, zero, suc, ◌+◌, ◌/◌, Bool, cond, ◌||◌, List, length, get_or, set, ltb, eqb}
use Rattle.sdf.specs.declared.Aabb.{Aabb}
use Rattle.bvh_boxes.specs.Boxes.{box_at}
use Rattle.bvh_range.specs.Range.{members}
use Rattle.bvh_bins.specs.declared.Grid.{Grid}
use Rattle.bvh_bins.specs.Bins.{grid_of, bin_of, no_bins, bins_from, split_by}

unfoldable pub swapped : ℕ → ℕ → List ℕ → List ℕ  -- the elements at i and j exchanged, where both are there
swapped i j xs =
    cond (ltb i (length xs)) (cond (ltb j (length xs)) (set (set xs i (get_or xs j 0)) j (get_or xs i 0)) xs) xs

unfoldable pub goes_left : List Aabb → Grid → ℕ → ℕ → Bool
goes_left bs g split o = ltb (bin_of g (box_at bs o)) split

pub record Parted : Type 0 where
  pub mid : ℕ
  pub order : List ℕ

unfoldable pub part_from : List Aabb → Grid → ℕ → ℕ → ℕ → ℕ → List ℕ → Parted  -- n more steps, from place i on
part_from bs g split zero i mid os = record { mid = mid; order = os }
part_from bs g split (suc n) i mid os =
    part_from bs g split n (i + 1)
    (cond (goes_left bs g split (get_or os i 0)) (mid + 1) mid)
    (cond (goes_left bs g split (get_or os i 0)) (swapped i mid os) os)

unfoldable pub parted : List Aabb → Grid → ℕ → List ℕ → Parted
parted bs g split os = part_from bs g split (length os) 0 0 os

unfoldable pub evened : ℕ → ℕ → ℕ
evened mid n = cond (eqb mid 0 || eqb mid n) (n / 2) mid

unfoldable pub split_of : List Aabb → List ℕ → Aabb → ℕ  -- the source's, of a range whose centres lie in c
split_of bs os c = split_by (bins_from (grid_of c) no_bins (members bs os))

unfoldable pub cut_of : List Aabb → List ℕ → Aabb → Parted  -- the range in two parts
cut_of bs os c =
    let p = parted bs (grid_of c) (split_of bs os c) os in
    record { mid = evened p.mid (length os); order = p.order }
