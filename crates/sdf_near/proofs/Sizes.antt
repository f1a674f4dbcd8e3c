-- A value's magnitude by one test and a difference: what is above zero is its own, and zero less any other is exact. By
-- the cases of a value. Assumes nothing.
use mathlib.Core.Path.{◌≡◌, refl, sym, ap, subst, ◌∙◌}
use mathlib.Core.Bool.{true, false, true≢false, false≢true}
use Prim.Native.Nat.{ℕ, zero, suc, ◌+◌, ◌*◌, ◌<◌}
use native.Mathlib.Nat.{mul-pos, zero-lt-suc, zero-mul}
use native.Mathlib.Omega.{arith}
use borrow.Author.Tests.{ltb-false}
use lib.Dec.{T, ltb, lit<}
use lib.IntN.{ℤ}
use lib.Ieee.{Float, nan, inf, fin, binary32, up, down, round, of_bits, fits, neg, sum, add, sub, lt}
use lib.Ieee.Fits.{up_pos}
use Rattle.root.proofs.Laws.{zero_exponent}
use Rattle.scalar.specs.F32.{◌⊖◌, f0}
use Rattle.scalar.specs.Signs.{abs_of}
use Rattle.float_order.proofs.Holding.{round_own}

pub size_above : (x : Float) → lt f0 x ≡ true → x ≡ abs_of x
unfolding lt of_bits abs_of
size_above nan h = absurd (false≢true h)
size_above (inf true) h = absurd (false≢true h)
size_above (inf false) h = refl
size_above (fin true m e) h = absurd (false≢true h)
size_above (fin false m e) h = refl

pub size_other : (x : Float) → T (fits binary32 x) → lt f0 x ≡ false → f0 ⊖ x ≡ abs_of x
unfolding lt of_bits sub add sum neg abs_of fits
size_other nan f h = refl
size_other (inf true) f h = refl
size_other (inf false) f h = absurd (true≢false h)
size_other (fin true m e) f h = exact (0 * 1 * down e + m * up e * 1) (1 * down e) (omega arith) (omega arith)
  where
    exact : (n c : ℕ) → n ≡ m * up e → c ≡ down e → round binary32 false n c ≡ fin false m e
    exact n c p q =
        ap (λ (z : ℕ). round binary32 false z c) p ∙ ap (λ (z : ℕ). round binary32 false (m * up e) z) q
        ∙ round_own binary32 false m e f
size_other (fin false zero e) f h =
    subst (λ (z : ℤ). f0 ⊖ fin false 0 z ≡ fin false 0 z) (sym (zero_exponent false e f)) refl
size_other (fin false (suc m) e) f h =
    absurd (above (0 * 1 * down e) (suc m * up e * 1) (zero-mul (down e))
    (mul-pos (mul-pos (zero-lt-suc m) (up_pos e)) (lit< tt)) h)
  where
    above : (a b : ℕ) → a ≡ 0 → 0 < b → ltb a b ≡ false → ⊥
    above a b p q h = omega (arith, ltb-false a b h)
