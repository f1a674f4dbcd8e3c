-- A float brought between 0.5, in the first bin, and 11, in the last, and the bins of a range's objects noted at their
-- places.
use Rattle.std.specs.Prelude.{◌≡◌, ℕ, ◌<◌, cond, List, from_bits, slice_index, Float}
use Rattle.std.specs.Float.{binary32}
use Rattle.std.specs.Float.Ieee.{lt}
use Rattle.scalar.specs.F32.{fhalf}
use Rattle.sdf.specs.declared.Aabb.{Aabb}
use Rattle.bvh_boxes.specs.Boxes.{box_at}
use Rattle.bvh_bins.specs.declared.Grid.{Grid}
use Rattle.bvh_bins.specs.Bins.{bin_of}

abbrev f11 : Float
f11 = from_bits binary32 0x4130_0000

abbrev pub from_first : Float → Float
from_first x = cond (lt fhalf x) x fhalf

abbrev pub to_last : Float → Float
to_last x = cond (lt x f11) x f11

abbrev pub Noted : List Aabb → Grid → List ℕ → List ℕ → ℕ → Type 0  -- of the first n places
Noted bs g os places n = (j : ℕ) → j < n → j < 256 → slice_index places j ≡ bin_of g (box_at bs (slice_index os j))
