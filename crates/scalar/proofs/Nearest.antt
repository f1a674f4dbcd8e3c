-- Each constant is the f32 nearest to its decimal: twice the decimal lies between the sums with the f32 below and with
-- the f32 above, over whole numbers of 2 ^ -149. One test, computed over the whole table. Assumes nothing.
use Prim.Native.Nat.{ℕ, suc, ◌*◌, ◌%◌, ◌^◌}
use mathlib.Core.Path.{◌≡◌, refl}
use mathlib.Core.Bool.{Bool, true, false, ◌&&◌, beq}
use mathlib.Core.List.{List, [], ◌∷◌}
use lib.Dec.{leb, ltb}
use lib.Ieee.{Float, binary32, of_bits, to_bits, neg}
use Rattle.root.specs.Root.{mid}
use Rattle.scalar.specs.F32.{fhalf, f1, fpi, f2, f12, f96, fquarter, f1·25, f1·5, f0·006, f0·015, f0·04}
use Rattle.scalar.specs.F32.{f0·05, f0·12, fturn, f1e20, f3e_3, f1e_3, f1e_4, f1e_6, f1e_9, f1e_12}
use Rattle.scalar.specs.Acos.{a0, a1, a2, a3, a4, a5, a6, a7}

-- a value, and its decimal: num / den, below zero where `minus` says so
pub record Constant : Type 0 where
  pub value : Float
  pub minus : Bool
  pub num : ℕ
  pub den : ℕ

-- the f32 with the bits p is nearer to n / d than its neighbours are
abbrev pub nearer : ℕ → ℕ → ℕ → Bool
nearer p n d = ltb (mid p * d) (2 * n * 2 ^ 149) && ltb (2 * n * 2 ^ 149) (mid (suc p) * d)

abbrev pub nearest : Constant → Bool
nearest c = let b = to_bits binary32 c.value in beq (leb (2 ^ 31) b) c.minus && nearer (b % 2 ^ 31) c.num c.den

abbrev pub all_nearest : List Constant → Bool
all_nearest [] = true
all_nearest (c ∷ cs) = nearest c && all_nearest cs

abbrev pub constants : List Constant
constants =
    record { value = fhalf; minus = false; num = 5; den = 10 }
    ∷ record { value = f1; minus = false; num = 1; den = 1 }
    ∷ record { value = fpi; minus = false; num = 31415926535; den = 10 ^ 10 }
    ∷ record { value = f2; minus = false; num = 2; den = 1 }
    ∷ record { value = f12; minus = false; num = 12; den = 1 }
    ∷ record { value = f96; minus = false; num = 96; den = 1 }
    ∷ record { value = fquarter; minus = false; num = 25; den = 100 }
    ∷ record { value = f1·25; minus = false; num = 125; den = 100 }
    ∷ record { value = f1·5; minus = false; num = 15; den = 10 }
    ∷ record { value = f0·006; minus = false; num = 6; den = 1000 }
    ∷ record { value = f0·015; minus = false; num = 15; den = 1000 }
    ∷ record { value = f0·04; minus = false; num = 4; den = 100 }
    ∷ record { value = f0·05; minus = false; num = 5; den = 100 }
    ∷ record { value = f0·12; minus = false; num = 12; den = 100 }
    ∷ record { value = fturn; minus = false; num = 15915494; den = 10 ^ 8 }
    ∷ record { value = f1e20; minus = false; num = 10 ^ 20; den = 1 }
    ∷ record { value = f3e_3; minus = false; num = 3; den = 10 ^ 3 }
    ∷ record { value = f1e_3; minus = false; num = 1; den = 10 ^ 3 }
    ∷ record { value = f1e_4; minus = false; num = 1; den = 10 ^ 4 }
    ∷ record { value = f1e_6; minus = false; num = 1; den = 10 ^ 6 }
    ∷ record { value = f1e_9; minus = false; num = 1; den = 10 ^ 9 }
    ∷ record { value = f1e_12; minus = false; num = 1; den = 10 ^ 12 }
    ∷ record { value = a0; minus = false; num = 15707963050; den = 10 ^ 10 }
    ∷ record { value = a1; minus = true; num = 2145988016; den = 10 ^ 10 }
    ∷ record { value = a2; minus = false; num = 889789874; den = 10 ^ 10 }
    ∷ record { value = a3; minus = true; num = 501743046; den = 10 ^ 10 }
    ∷ record { value = a4; minus = false; num = 308918810; den = 10 ^ 10 }
    ∷ record { value = a5; minus = true; num = 170881256; den = 10 ^ 10 }
    ∷ record { value = a6; minus = false; num = 66700901; den = 10 ^ 10 }
    ∷ record { value = a7; minus = true; num = 12624911; den = 10 ^ 10 }
    ∷ []

pub constants_nearest : all_nearest constants ≡ true
unfolding to_bits of_bits neg
constants_nearest = refl
