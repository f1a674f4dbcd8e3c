-- A float brought between 0.5 and 11, and cut by its exponent: what its bits are, and what the cut gives. By the cases
-- of a value, and the units of its bits. Assumes nothing.
use Rattle.std.proofs.Common.{◌≡◌, ℕ, suc, ◌+◌, ◌-◌, ◌*◌, ◌/◌, ◌%◌, ◌^◌, ◌<◌, ◌≤◌, min, Bool, true, false, cond, not, T, ℤ, pos, negsuc, sym, refl, ap, ◌∙◌, subst, mul_assoc, mul_comm, div-lt_iff_lt-mul, lt_of_mul-lt-mul_right, mul-lt-mul_of_pos_right, le-div_iff_mul-le, mul-one, arith, lit≤, pow_pos, pow-add, ltb-false, ltb-true}
use native.Mathlib.Nat.{div-eq_of_lt}
use native.Mathlib.Nat.{mul-div-mul_right}
use lib.Ieee.{Float, nan, inf, fin, binary32, up, down, lt, to_unsigned, to_bits, fits, is_nan}
use lib.Ieee.Exact.{HasValue}
use lib.Ieee.Fits.{down_pos}
use Rattle.root.specs.Root.{fields, val}
use Rattle.root.proofs.Patterns.{lt_of_val}
use Rattle.root.proofs.Laws.{bits_value, plain_bits, plain_small}

abbrev half : Float
half = fin false 1 (negsuc 0)

abbrev eleven : Float
eleven = fin false 11 (pos 0)

-- the digits of the bits b, cut by their exponent
abbrev cut_bits : ℕ → ℕ
cut_bits b = (b % 8388608 + 8388608) / 2 ^ (150 - b / 8388608)

pub record Cuts (x z : Float) : Type 0 where
  pub number : T (not (is_nan z))
  pub low : 126 ≤ to_bits binary32 z / 8388608
  pub high : to_bits binary32 z / 8388608 ≤ 130
  pub is : cut_bits (to_bits binary32 z) ≡ min (to_unsigned 64 x) 11

-- ---- at the ends
cut_none : (y : Float) → lt half y ≡ false → to_unsigned 64 y ≡ 0
unfolding lt to_unsigned
cut_none nan h = refl
cut_none (inf true) h = refl
cut_none (inf false) h = absurd (subst T h tt)
cut_none (fin true m e) h = refl
cut_none (fin false m e) h =
    let g : m * up e * 2 ≤ 1 * 1 * down e = ltb-false _ _ h in
    let d : m * up e / down e ≡ 0 = div-eq_of_lt (omega (arith, down_pos e)) in
    rw d

cut_above : (y : Float) → lt half y ≡ true → lt y eleven ≡ false → 11 ≤ to_unsigned 64 y
unfolding lt to_unsigned
cut_above nan g h = absurd (subst T (sym g) tt)
cut_above (inf true) g h = absurd (subst T (sym g) tt)
cut_above (inf false) g h = lit≤ tt
cut_above (fin true m e) g h = absurd (subst T (sym g) tt)
cut_above (fin false m e) g h =
    let l : 11 * 1 * down e ≤ m * up e * 1 = ltb-false _ _ h in
    let q : 11 ≤ m * up e / down e = (le-div_iff_mul-le (down_pos e)).1 (simp mul-one at l) in
    omega arith

-- ---- between them: a / d is v of 2 ^ 149
module _ (a d v : ℕ) (h : a * 2 ^ 149 ≡ v * d) (p : 0 < d) where
  above_half : d < a * 2 → 2 ^ 148 < v
  above_half l =
      lt_of_mul-lt-mul_right d
      (subst (λ (n : ℕ). 2 ^ 148 * d < n) (mul_assoc a 2 (2 ^ 148) ∙ h)
      (subst (λ (n : ℕ). n < a * 2 * 2 ^ 148) (mul_comm d (2 ^ 148)) (mul-lt-mul_of_pos_right l (pow_pos 148))))

  below_eleven : a < 11 * d → v < 11 * 2 ^ 149
  below_eleven l =
      lt_of_mul-lt-mul_right d
      (subst (λ (n : ℕ). n < 11 * 2 ^ 149 * d) h
      (subst (λ (n : ℕ). a * 2 ^ 149 < n) (mul_assoc 11 d (2 ^ 149) ∙ ap (λ (n : ℕ). 11 * n) (mul_comm d (2 ^ 149))
      ∙ sym (mul_assoc 11 (2 ^ 149) d)) (mul-lt-mul_of_pos_right l (pow_pos 149))))

  same_quotient : a / d ≡ v / 2 ^ 149
  same_quotient =
      sym (mul-div-mul_right {m = 2 ^ 149} a d (pow_pos 149))
      ∙ ap (λ (n : ℕ). n / (d * 2 ^ 149)) h
      ∙ ap (λ (n : ℕ). v * d / n) (mul_comm d (2 ^ 149))
      ∙ mul-div-mul_right {m = d} v (2 ^ 149) p

fields_cut : (q t : ℕ) → q ≤ 149 → fields (suc q) t / 2 ^ 149 ≡ (t + 8388608) / 2 ^ (150 - suc q)
fields_cut q t h =
    let e : 149 ≡ 149 - q + q = omega arith in
    let s : 149 - q ≡ 150 - suc q = omega arith in
    let w : 8388608 + t ≡ t + 8388608 = omega arith in
    ap (λ (n : ℕ). (8388608 + t) * 2 ^ q / n) (ap (λ (n : ℕ). 2 ^ n) e ∙ pow-add 2 (149 - q) q)
    ∙ mul-div-mul_right {m = 2 ^ q} (8388608 + t) (2 ^ (149 - q)) (pow_pos q)
    ∙ ap (λ (n : ℕ). n / 2 ^ (149 - q)) w
    ∙ ap (λ (n : ℕ). (t + 8388608) / 2 ^ n) s

val_cut : (p : ℕ) → 126 ≤ p / 8388608 → p / 8388608 ≤ 130 → val p / 2 ^ 149 ≡ cut_bits p
val_cut p l h =
    let q = p / 8388608 - 1 in
    let e : p / 8388608 ≡ suc q = omega arith in
    ap (λ (n : ℕ). fields n (p % 8388608) / 2 ^ 149) e
    ∙ fields_cut q (p % 8388608) (omega arith)
    ∙ ap (λ (n : ℕ). (p % 8388608 + 8388608) / 2 ^ (150 - n)) (sym e)

few_cut : (q : ℕ) → q < 11 → min (min q (2 ^ 64 - 1)) 11 ≡ q
few_cut q h = omega arith

between : (m : ℕ) (e : ℤ) → T (fits binary32 (fin false m e)) → 1 * 1 * down e < m * up e * 2
    → m * up e * 1 < 11 * 1 * down e → Cuts (fin false m e) (fin false m e)
unfolding to_unsigned is_nan
between m e f g h =
    let x = fin false m e in
    let p = to_bits binary32 x in
    let has : HasValue x false (val p) (2 ^ 149)
    = subst (λ (y : Float). HasValue y false (val p) (2 ^ 149)) (plain_bits x f) (bits_value p (plain_small x f)) in
    let v = has.1 in
    let a = m * up e in
    let d = down e in
    let v1 = above_half a d (val p) v (down_pos e) (omega arith) in
    let l : 0x3f00_0000 < p = lt_of_val {p = 0x3f00_0000} {q = p} v1 in
    let v2 = below_eleven a d (val p) v (down_pos e) (omega arith) in
    let u : p < 0x4130_0000 = lt_of_val {p = p} {q = 0x4130_0000} v2 in
    let low : 126 ≤ p / 8388608 = omega arith in
    let high : p / 8388608 ≤ 130 = omega arith in
    let few : a / d < 11 = (div-lt_iff_lt-mul (down_pos e)).1 (omega arith) in
    record {
      number = tt;
      low = low;
      high = high;
      is = sym (val_cut p low high) ∙ sym (same_quotient a d (val p) v (down_pos e)) ∙ sym (few_cut (a / d) few);
    }

inner : (x : Float) → T (fits binary32 x) → lt half x ≡ true → lt x eleven ≡ true → Cuts x x
unfolding lt
inner nan f g h = absurd (subst T (sym g) tt)
inner (inf true) f g h = absurd (subst T (sym g) tt)
inner (inf false) f g h = absurd (subst T (sym h) tt)
inner (fin true m e) f g h = absurd (subst T (sym g) tt)
inner (fin false m e) f g h = between m e f (ltb-true _ _ g) (ltb-true _ _ h)

-- ---- a float brought between 0.5 and 11 is cut to the bin
last_of
    : (x : Float) (b : Bool) → T (fits binary32 x) → lt half x ≡ true → lt x eleven ≡ b
    → Cuts x (cond b x eleven)
unfolding to_bits is_nan
last_of x true f p q = inner x f p q
last_of x false f p q =
    let h = cut_above x p q in
    record { number = tt; low = lit≤ tt; high = lit≤ tt; is = omega arith }

none_of : (x : Float) → lt half x ≡ false → Cuts x (cond (lt half eleven) half eleven)
unfolding lt to_bits is_nan
none_of x p = let h = cut_none x p in record { number = tt; low = lit≤ tt; high = lit≤ tt; is = omega arith }

abbrev from_first : Float → Float
from_first x = cond (lt half x) x half

pub cuts : (x : Float) → T (fits binary32 x) → Cuts x (cond (lt (from_first x) eleven) (from_first x) eleven)
cuts x f = go (lt half x) refl
  where
    go : (b : Bool) → lt half x ≡ b → Cuts x (cond (lt (cond b x half) eleven) (cond b x half) eleven)
    go true p = last_of x (lt x eleven) f p refl
    go false p = none_of x p
