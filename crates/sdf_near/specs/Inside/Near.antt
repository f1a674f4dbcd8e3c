-- A distance as far as it matters: itself, or the bound t where it is no less.
use Rattle.std.specs.Prelude.{◌≡◌, ◌⊎◌, T, Float}
use Rattle.std.specs.Float.Ieee.{le}
use Rattle.root.specs.Root.{root_of}
use Rattle.scalar.specs.F32.{◌⊖◌, ◌⊗◌}
use Rattle.float_order.specs.Inside.Order.{number, zero_f}

abbrev pub Near : Float → Float → Float → Type 0
Near t d r = (r ≡ d) ⊎ ((r ≡ t) × T (le t d))  -- r stands for the distance d, of which only what lies below t is asked

-- s, if a number at all, is at most the square of how far the root of g is from major
abbrev pub OffRing : Float → Float → Float → Type 0
OffRing g major s = T (number s) → T (le zero_f s) × T (le s ((root_of g ⊖ major) ⊗ (root_of g ⊖ major)))
