-- The cases of `root`: which values pass its two tests, and what `root_of` is at each. Assumes nothing.
use Rattle.std.proofs.Common.{◌≡◌, ℕ, zero, suc, ◌-◌, ◌*◌, ◌%◌, ◌<◌, ◌≤◌, Bool, true, false, cond, not, ◌&&◌, ◌||◌, T, eqb, ltb, pos, negsuc, sym, refl, ap, ◌∙◌, subst, inl, inr, true≢false, le_refl, le_of_lt, zero-lt-suc, eq-zero-or-pos, mul-pos, zero-mul, not-le_of_lt, arith, lit<, eqb→eq, ltb→lt, lt→ltb}
use mathlib.Core.Bool.{beq, false≢true}
use lib.Dec.{not_T}
use lib.Ieee.{Float, nan, inf, fin, binary32, binary64, up, down, add, mul, lt, eq, le, of_bits, to_bits, fits}
use lib.Ieee.{is_nan, nan_bits}
use lib.Ieee.Bits.{nan_bits_above, of_bits-to_bits}
use lib.Ieee.Fits.{up_pos, and_i, and_l, fits_widens}
use Rattle.root.specs.Inside.Bar.{below, bar, bar_of}
use Rattle.root.specs.Root.{plain, val, root_bits, root_of}
use Rattle.root.proofs.Nans.{unequal_nan}
use Rattle.root.proofs.Laws.{plain_units, plain_small, root_opened}

-- 0.0, as MIR has it
zero_is : of_bits binary32 0 ≡ fin false 0 (pos 0)
unfolding of_bits
zero_is = refl

pub no_nan : (x : Float) → lt (of_bits binary32 0) x ≡ true → T (not (is_nan x))
unfolding lt is_nan of_bits
no_nan nan h = absurd (false≢true h)
no_nan (inf s) h = tt
no_nan (fin s m e) h = tt

pub no_nan_bits : (p : ℕ) → p < 2139095040 → T (not (nan_bits binary32 p))
no_nan_bits p h =
    subst (λ (b : Bool). T (not b)) (sym (nan_bits_above binary32 p))
    (not_T (ltb 2139095040 (p % 2147483648)) (λ (t : T (ltb 2139095040 (p % 2147483648))). less p h
    (ltb→lt 2139095040 (p % 2147483648) t)))
  where
    less : (p : ℕ) → p < 2139095040 → 2139095040 < p % 2147483648 → ⊥
    less p h k = omega arith

pub is_plain
    : (x : Float) → T (fits binary32 x) → lt (of_bits binary32 0) x ≡ true → to_bits binary32 x < 2139095040
    → T (plain x)
unfolding lt to_bits of_bits
is_plain nan f h l = absurd (false≢true h)
is_plain (inf true) f h l = absurd (false≢true h)
is_plain (inf false) f h l = absurd (not-le_of_lt l (le_refl 2139095040))
is_plain (fin true m e) f h l = absurd (false≢true h)
is_plain (fin false m e) f h l = f

pub at_plain
    : (x : Float) (r : ℕ) → T (fits binary32 x) → lt (of_bits binary32 0) x ≡ true
    → to_bits binary32 x < 2139095040 → r ≡ root_bits (val (to_bits binary32 x)) → of_bits binary32 r ≡ root_of x
at_plain x r f h l e =
    let p = is_plain x f h l in
    ap (of_bits binary32) (e ∙ ap root_bits (sym (plain_units x p))) ∙ sym (root_opened x p)

pub at_infinity
    : (x : Float) → T (fits binary32 x) → lt (of_bits binary32 0) x ≡ true → 2139095040 ≤ to_bits binary32 x
    → x ≡ root_of x
unfolding lt of_bits root_of
at_infinity nan f h l = absurd (false≢true h)
at_infinity (inf true) f h l = absurd (false≢true h)
at_infinity (inf false) f h l = refl
at_infinity (fin true m e) f h l = absurd (false≢true h)
at_infinity (fin false m e) f h l = absurd (not-le_of_lt (plain_small (fin false m e) f) l)

-- what is not above zero: a zero, and what has no root
pub at_zeros : (x : Float) → eq x (of_bits binary32 0) ≡ true → x ≡ root_of x
unfolding eq of_bits root_of
at_zeros nan h = absurd (false≢true h)
at_zeros (inf s) h = absurd (false≢true h)
at_zeros (fin s zero e) h = refl
at_zeros (fin s (suc m) e) h =
    absurd (none (suc m * up e * 1) (0 * 1 * down e) _ (mul-pos (mul-pos (zero-lt-suc m) (up_pos e)) (lit< tt))
    (zero-mul (down e)) h)
  where
    none : (a b : ℕ) (t : Bool) → 0 < a → b ≡ 0 → eqb a b && t ≡ true → ⊥
    none a b t h e k = differ a b h e (eqb→eq a b (and_l (eqb a b) t (subst T (sym k) tt)))
      where
        differ : (a b : ℕ) → 0 < a → b ≡ 0 → a ≡ b → ⊥
        differ a b h e k = omega arith

pub at_others
    : (x : Float) → lt (of_bits binary32 0) x ≡ false → eq x (of_bits binary32 0) ≡ false → nan ≡ root_of x
unfolding lt eq of_bits root_of
at_others nan h k = refl
at_others (inf true) h k = refl
at_others (inf false) h k = absurd (true≢false h)
at_others (fin s zero e) h k =
    absurd (same (0 * up e * 1) (0 * 1 * down e) (beq s false) (ap (λ (z : ℕ). z * 1) (zero-mul (up e)))
    (zero-mul (down e)) k)
  where
    same : (a b : ℕ) (t : Bool) → a ≡ 0 * 1 → b ≡ 0 → eqb a b && (t || eqb a 0) ≡ false → ⊥
    same a b t p q h = true≢false (sym (rw (p, q) (or t)) ∙ h)
      where
        or : (t : Bool) → true && (t || true) ≡ true
        or true = refl
        or false = refl
at_others (fin true (suc m) e) h k = refl
at_others (fin false (suc m) e) h k =
    absurd (subst (λ (b : Bool). T b) h (lt→ltb (0 * 1 * down e) (suc m * up e * 1)
    (above (0 * 1 * down e) (suc m * up e) (zero-mul (down e)) (mul-pos (zero-lt-suc m) (up_pos e)))))
  where
    above : (a b : ℕ) → a ≡ 0 → 0 < b → a < b * 1
    above a b e h = omega arith

-- ---- `bar` and `at_least`
pub cast_ok : (x : Float) → T (fits binary32 x) → T (not (is_nan x)) → T (fits binary64 x && not (is_nan x))
cast_ok x f n = and_i (fits binary64 x) (not (is_nan x)) (fits_widens x f) n

none : lt (of_bits binary32 0) (of_bits binary32 0) ≡ true → ⊥
unfolding lt of_bits
none e = false≢true e

pub bits_some : (b : Float) → T (fits binary32 b) → lt (of_bits binary32 0) b ≡ true → 1 ≤ to_bits binary32 b
bits_some b f h =
    elim (eq-zero-or-pos (to_bits binary32 b)) [
      | inl z ↦ absurd
          (none (ap (λ (y : Float). lt (of_bits binary32 0) y) (ap (of_bits binary32) (sym z) ∙ of_bits-to_bits binary32 b f)
          ∙ h))
      | inr p ↦ p
    ]

bits_le : (b : Float) → T (fits binary32 b) → lt (of_bits binary32 0) b ≡ true → to_bits binary32 b ≤ 2139095040
unfolding lt to_bits of_bits
bits_le nan f h = absurd (false≢true h)
bits_le (inf true) f h = absurd (false≢true h)
bits_le (inf false) f h = le_refl 2139095040
bits_le (fin true m e) f h = absurd (false≢true h)
bits_le (fin false m e) f h = le_of_lt (plain_small (fin false m e) f)

pub below_small
    : (b : Float) → T (fits binary32 b) → lt (of_bits binary32 0) b ≡ true → to_bits binary32 b - 1 < 2139095040
below_small b f h = less (to_bits binary32 b) (bits_some b f h) (bits_le b f h)
  where
    less : (p : ℕ) → 1 ≤ p → p ≤ 2139095040 → p - 1 < 2139095040
    less p a b = omega arith

pub plain_no_nan : (x : Float) → T (plain x) → T (not (is_nan x))
unfolding is_nan
plain_no_nan nan h = absurd h
plain_no_nan (inf s) h = absurd h
plain_no_nan (fin s m e) h = tt

-- 0.5, as MIR has it
half_is : of_bits binary64 0x3fe0_0000_0000_0000 ≡ fin false 1 (negsuc 0)
unfolding of_bits
half_is = refl

pub bar_above
    : (b : Float) (m : Float) → lt (of_bits binary32 0) b ≡ true
    → m ≡ mul binary64 (add binary64 (below b) b) (of_bits binary64 0x3fe0_0000_0000_0000)
    → mul binary64 m m ≡ bar_of b
unfolding bar_of
bar_above b m h e =
    ap (λ (z : Float). mul binary64 z z) (e ∙ ap (λ (z : Float). mul binary64 (add binary64 (below b) b) z) half_is)
    ∙ sym (ap (λ (t : Bool). cond t (bar b) (fin false 0 (pos 0))) (ap (λ (z : Float). lt z b) (sym zero_is) ∙ h))

pub bar_others : (b : Float) → lt (of_bits binary32 0) b ≡ false → of_bits binary64 0 ≡ bar_of b
unfolding bar_of of_bits
bar_others b h = sym (ap (λ (t : Bool). cond t (bar b) (fin false 0 (pos 0))) h)

le_nan : (t : Float) → false ≡ le t nan
unfolding le
le_nan nan = refl
le_nan (inf s) = refl
le_nan (fin s m e) = refl

pub at_least_nan : (x t : Float) → eq x x ≡ false → false ≡ le t x
at_least_nan x t h = le_nan t ∙ ap (λ (z : Float). le t z) (sym (unequal_nan x h))
