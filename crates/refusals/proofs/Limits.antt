-- The limits of ranges are the numbers that they are named for, by the test that serves every constant. Assumes nothing.
use Prim.Native.Nat.{◌-◌, ◌*◌, ◌^◌}
use mathlib.Core.Path.{◌≡◌, refl}
use mathlib.Core.Bool.{true, false}
use mathlib.Core.List.{List, [], ◌∷◌}
use lib.Ieee.{of_bits, to_bits}
use Rattle.scalar.proofs.Nearest.{Constant, all_nearest}
use Rattle.refusals.specs.Ranges.{far, steep, farther, farthest, longest, sharpest, widest, greatest}

abbrev limits : List Constant
limits =
    record { value = far; minus = false; num = 10000; den = 1 }
    ∷ record { value = steep; minus = false; num = 15; den = 10 }
    ∷ record { value = farther; minus = false; num = 20000; den = 1 }
    ∷ record { value = farthest; minus = false; num = 200000; den = 1 }
    ∷ record { value = longest; minus = false; num = 100000; den = 1 }
    ∷ record { value = sharpest; minus = false; num = 1000; den = 1 }
    ∷ record { value = widest; minus = false; num = 10; den = 1 }
    ∷ record { value = greatest; minus = false; num = (2 ^ 24 - 1) * 2 ^ 104; den = 1 }
    ∷ []

pub limits_right : all_nearest limits ≡ true
unfolding to_bits of_bits
limits_right = refl
