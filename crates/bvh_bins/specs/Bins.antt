-- "12 bins; splits tried from 11 down, a strictly lower cost wins."
use Rattle.std.specs.Prelude.{ℕ, zero, suc, ◌+◌, min, cond, ◌||◌, List, [], ◌∷◌, replicate, pos, ◌==◌, slice_index, slice_set, Float}
use Rattle.std.specs.Float.{binary32}
use Rattle.std.specs.Float.Ieee.{of_int, to_unsigned, lt}
use Rattle.scalar.specs.F32.{◌⊕◌, ◌⊖◌, ◌⊗◌, ◌⊘◌, f0, f2, f12}
use Rattle.vectors.specs.Vec.{vsub, vaxis}
use Rattle.sdf.specs.declared.Aabb.{Aabb}
use Rattle.sdf.specs.Boxes.{centre_of}
use Rattle.refusals.specs.Ranges.{greatest}
use Rattle.bvh_boxes.specs.Boxes.{nowhere, merge, box_at}
use Rattle.bvh_range.specs.Range.{extent_of, axis_of}
use Rattle.bvh_bins.specs.declared.Grid.{Grid}
use Rattle.bvh_bins.specs.declared.Sweep.{Sweep}

unfoldable pub grid_of : Aabb → Grid  -- where the bins lie: the axis, its low end and 12 by its extent
grid_of c =
    record {
      axis = axis_of (extent_of c);
      low = vaxis c.lo (axis_of (extent_of c));
      scale = f12 ⊘ vaxis (extent_of c) (axis_of (extent_of c));
    }

abbrev pub bin_at : Float → ℕ  -- as `as usize`: toward zero, to the nearest end of the range, from a NaN to 0
bin_at x = min (to_unsigned 64 x) 11

unfoldable pub bin_of : Grid → Aabb → ℕ
bin_of g b = bin_at ((vaxis (centre_of b) g.axis ⊖ g.low) ⊗ g.scale)

unfoldable pub plus : ℕ → ℕ → ℕ  -- a sum of counts that stops at the greatest 32-bit number, which no count reaches
plus a b = min (a + b) 4294967295

pub record Bins : Type 0 where  -- each bin's box and its count
  pub boxes : List Aabb
  pub counts : List ℕ

abbrev pub no_bins : Bins
no_bins = record { boxes = replicate 12 nowhere; counts = replicate 12 0 }

unfoldable pub drop_in : Grid → Bins → Aabb → Bins
drop_in g σ b =
    record {
      boxes = slice_set σ.boxes (bin_of g b) (merge (box_at σ.boxes (bin_of g b)) b);
      counts = slice_set σ.counts (bin_of g b) (plus (slice_index σ.counts (bin_of g b)) 1);
    }

unfoldable pub bins_from : Grid → Bins → List Aabb → Bins
bins_from g σ [] = σ
bins_from g σ (b ∷ bs) = bins_from g (drop_in g σ b) bs

unfoldable pub area : Aabb → Float  -- the source's `sa`
area b =
    let d = vsub b.hi b.lo in
    cond (lt b.hi.x b.lo.x) f0 (f2 ⊗ (d.x ⊗ d.y ⊕ d.y ⊗ d.z ⊕ d.z ⊗ d.x))

unfoldable pub left_box : Bins → ℕ → Aabb  -- the first i bins together
left_box σ zero = nowhere
left_box σ (suc i) = merge (left_box σ i) (box_at σ.boxes i)

unfoldable pub left_count : Bins → ℕ → ℕ
left_count σ zero = 0
left_count σ (suc i) = plus (left_count σ i) (slice_index σ.counts i)

abbrev pub as_float : ℕ → Float
as_float n = of_int binary32 (pos n)

unfoldable pub cost_of : Float → ℕ → Aabb → ℕ → Float
cost_of la lc b n = la ⊗ as_float lc ⊕ area b ⊗ as_float n

-- the better of the choice so far and the split before bin i, the bins from i on being s .hull and s.count
unfoldable pub choose : Sweep → Float → ℕ → ℕ → Sweep
choose s la lc i =
    cond (lc == 0 || s.count == 0) s
    (cond (lt (cost_of la lc s.hull s.count) s.cost)
    (record { hull = s.hull; count = s.count; cost = cost_of la lc s.hull s.count; split = i }) s)

unfoldable pub take_bin : Sweep → Aabb → ℕ → Sweep  -- one bin more from the right
take_bin s b n = record { hull = merge s.hull b; count = plus s.count n; cost = s.cost; split = s.split }

unfoldable pub sweep_at : Bins → ℕ → Sweep → Sweep
sweep_at σ i s = choose (take_bin s (box_at σ.boxes i) (slice_index σ.counts i)) (area (left_box σ i)) (left_count σ i) i

unfoldable pub sweep_from : Bins → ℕ → Sweep → Sweep  -- splits k, k - 1, .., 1
sweep_from σ zero s = s
sweep_from σ (suc k) s = sweep_from σ k (sweep_at σ (suc k) s)

abbrev pub no_sweep : Sweep
no_sweep = record { hull = nowhere; count = 0; cost = greatest; split = 6 }

unfoldable pub split_by : Bins → ℕ
split_by σ = (sweep_from σ 11 no_sweep).split
