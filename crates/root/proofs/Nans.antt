-- NaN patterns and NaN tests at binary32: which words are a NaN's, and that only a NaN differs from itself. By the
-- cases of a value. Assumes nothing.
use Rattle.std.proofs.Common.{◌≡◌, ℕ, ◌%◌, ◌<◌, ◌≤◌, Bool, true, false, not, T, sym, refl, ◌∙◌, subst, le-ltb, lt-ltb}
use lib.Ieee.{Float, binary32, nan, inf, fin, is_nan, nan_bits, of_bits, div, eq, ne}
use lib.Ieee.Bits.{nan_bits_is, nan_bits_above}
use lib.Ieee.Compare.{differs_from_itself}

is_nan_lem : (x : Float) → is_nan x ≡ true → x ≡ nan
unfolding is_nan
is_nan_lem nan e = refl
is_nan_lem (inf s) e = cc
is_nan_lem (fin s m d) e = cc

-- a pattern above an infinity's is `nan`, and one that is not above is no NaN's
pub above_nan : (w : ℕ) → 2139095040 < w % 2147483648 → of_bits binary32 w ≡ nan
above_nan w h =
    is_nan_lem (of_bits binary32 w) (sym (nan_bits_is binary32 w) ∙ nan_bits_above binary32 w ∙ lt-ltb 2139095040
    (w % 2147483648) h)

pub below_no_nan : (w : ℕ) → w % 2147483648 ≤ 2139095040 → T (not (nan_bits binary32 w))
below_no_nan w h =
    subst (λ (b : Bool). T (not b)) (sym (nan_bits_above binary32 w ∙ le-ltb 2139095040 (w % 2147483648) h)) tt

pub zero_by_zero : div binary32 (of_bits binary32 0) (of_bits binary32 0) ≡ nan
unfolding div of_bits
zero_by_zero = refl

-- what equals itself is no NaN, and what does not is `nan`
pub equal_no_nan : (x : Float) → eq x x ≡ true → T (not (is_nan x))
unfolding is_nan eq
equal_no_nan nan e = absurd (subst T (sym e) tt)
equal_no_nan (inf s) e = tt
equal_no_nan (fin s m d) e = tt

pub unequal_nan : (x : Float) → eq x x ≡ false → x ≡ nan
unfolding ne
unequal_nan x e = differs_from_itself x (subst (λ (b : Bool). T (not b)) (sym e) tt)
