-- The root of x is at least b exactly where x is at least `bar b`, the square of the midpoint of b and the f32 just
-- below, worked out in f64, which holds it. So a search may compare squares of distances and take no root. Assumes
-- nothing.
use Rattle.std.proofs.Common.{◌≡◌, ℕ, zero, suc, ◌+◌, ◌-◌, ◌*◌, ◌/◌, ◌^◌, ◌<◌, ◌≤◌, Bool, true, false, cond, T, pos, negsuc, sym, refl, ap, ◌∙◌, subst, le_trans, le_of_eq, lt_of_lt_of_le, mul-le-mul_right, zero-lt-suc, mul_assoc, mul_comm, add-mul, mul-le-mul, mul-pos, zero-mul, mul-one, le_of_mul-le-mul_right, mul_left_comm, arith, lit<, lit≤, lt→ltb, pow_pos, pow_mono, pow-add, shl_lt}
use native.Mathlib.Nat.{mul-mul-mul_comm}
use native.Mathlib.Nat.{zero-div}
use lib.Ieee.{Float, nan, inf, fin, Format, binary32, binary64, up, down, round, add, mul, to_bits, le, lt}
use lib.Ieee.Exact.{HasValue, round_exact}
use lib.Ieee.Fits.{up_pos, down_pos}
use lib.Ieee.Order.{le_of_values}
use lib.Ieee.Scale.{round_same}
use Rattle.root.specs.Root.{units, plain, val, mid, root_of}
use Rattle.root.specs.Inside.Bar.{below, middle, bar, bar_of}
use Rattle.root.proofs.Patterns.{mid_short}
use Rattle.root.proofs.Laws.{bits_value, plain_bits, plain_small, root_plain}
use Rattle.root.proofs.Order.{plain_value, le→fractions, units→le, root_reaches}

-- ---- sums and products of fractions
add_value
    : (f : Format) (x y : Float) (a b c : ℕ) → 0 < c → HasValue x false a c → HasValue y false b c
    → add f x y ≡ round f false (a + b) c
unfolding add
add_value f nan y a b c C p q = absurd p
add_value f (inf s) y a b c C p q = absurd p
add_value f (fin true m e) y a b c C p q = absurd (subst (λ (z : Bool). T z) p.0 tt)
add_value f (fin false m e) nan a b c C p q = absurd q
add_value f (fin false m e) (inf t) a b c C p q = absurd q
add_value f (fin false m e) (fin true n d) a b c C p q = absurd (subst (λ (z : Bool). T z) q.0 tt)
add_value f (fin false m e) (fin false n d) a b c C p q =
    round_same f false (m * up e * down d + n * up d * down e) (down e * down d) (a + b) c
    (mul-pos (down_pos e) (down_pos d)) C
    (cross (m * up e) (down e) (n * up d) (down d) a b c p.1 q.1)
  where
    cross : (x e y d a b c : ℕ) → x * c ≡ a * e → y * c ≡ b * d → (x * d + y * e) * c ≡ (a + b) * (e * d)
    cross x e y d a b c p q =
        let u : x * d * c ≡ a * (e * d) = simp (mul_assoc, mul_comm, mul_left_comm)
        (simp (mul_assoc, mul_comm, mul_left_comm) at (ap (λ (z : ℕ). z * d) p)) in
        let v : y * e * c ≡ b * (e * d) = simp (mul_assoc, mul_comm, mul_left_comm)
        (simp (mul_assoc, mul_comm, mul_left_comm) at (ap (λ (z : ℕ). z * e) q)) in
        add-mul (x * d) (y * e) c ∙ ap (λ (z : ℕ). z + y * e * c) u ∙ ap (λ (z : ℕ). a * (e * d) + z) v
        ∙ sym (add-mul a b (e * d))

pub mul_value
    : (f : Format) (x y : Float) (a b c d : ℕ) → 0 < c → 0 < d → HasValue x false a c → HasValue y false b d
    → mul f x y ≡ round f false (a * b) (c * d)
unfolding mul
mul_value f nan y a b c d C D p q = absurd p
mul_value f (inf s) y a b c d C D p q = absurd p
mul_value f (fin true m e) y a b c d C D p q = absurd (subst (λ (z : Bool). T z) p.0 tt)
mul_value f (fin false m e) nan a b c d C D p q = absurd q
mul_value f (fin false m e) (inf t) a b c d C D p q = absurd q
mul_value f (fin false m e) (fin true n k) a b c d C D p q = absurd (subst (λ (z : Bool). T z) q.0 tt)
mul_value f (fin false m e) (fin false n k) a b c d C D p q =
    round_same f false (m * up e * (n * up k)) (down e * down k) (a * b) (c * d) (mul-pos (down_pos e) (down_pos k))
    (mul-pos C D)
    (mul-mul-mul_comm (m * up e) (n * up k) c d ∙ ap (λ (z : ℕ). z * (n * up k * d)) p.1 ∙ ap
    (λ (z : ℕ). a * down e * z) q.1 ∙ mul-mul-mul_comm a (down e) b (down k))

-- ---- what f64 holds
pub exact
    : (n o k i : ℕ) → n ≡ o * 2 ^ k → o < 2 ^ 53 → k ≤ 508 → i ≤ 300
    → HasValue (round binary64 false n (2 ^ i)) false n (2 ^ i)
exact n o k i e h l g =
    round_exact binary64 false n (2 ^ i) o (k + (1074 - i)) (pow_pos i) h
    (lt_of_lt_of_le (shl_lt 53 (k + (1074 - i)) h) (pow_mono (fits k i l)))
    (ap (λ (z : ℕ). z * 2 ^ 1074) e ∙ mul_assoc o (2 ^ k) (2 ^ 1074) ∙ ap (λ (z : ℕ). o * z)
    (sym (pow-add 2 k 1074) ∙ ap (λ (z : ℕ). 2 ^ z) (split k i g) ∙ pow-add 2 (k + (1074 - i)) i) ∙ sym
    (mul_assoc o (2 ^ (k + (1074 - i))) (2 ^ i)))
  where
    fits : (k i : ℕ) → k ≤ 508 → 53 + (k + (1074 - i)) ≤ 2098
    fits k i h = omega arith

    split : (k i : ℕ) → i ≤ 300 → k + 1074 ≡ k + (1074 - i) + i
    split k i h = omega arith

module _ (b : Float) (q : T (plain b)) where
  sum_value : HasValue (add binary64 (below b) b) false (mid (to_bits binary32 b)) (2 ^ 149)
  sum_value =
      let p = to_bits binary32 b in
      let s = mid_short p (plain_small b q) in
      subst (λ (x : Float). HasValue x false (mid p) (2 ^ 149))
      (sym (add_value binary64 (below b) b (val (p - 1)) (val p) (2 ^ 149) (pow_pos 149)
      (bits_value (p - 1) (less p (plain_small b q)))
      (subst (λ (x : Float). HasValue x false (val p) (2 ^ 149)) (plain_bits b q) (bits_value p (plain_small b q)))))
      (exact (mid p) s.0 s.1 149 s.2 (lt_of_lt_of_le s.3 (lit≤ tt)) (le_trans s.4 (lit≤ tt))
      (lit≤ tt))
    where
      less : (p : ℕ) → p < 2139095040 → p - 1 < 2139095040
      less p h = omega arith

  middle_value : HasValue (middle b) false (mid (to_bits binary32 b)) (2 ^ 150)
  middle_value =
      let p = to_bits binary32 b in
      let s = mid_short p (plain_small b q) in
      subst (λ (x : Float). HasValue x false (mid p) (2 ^ 150))
      (sym (mul_value binary64 (add binary64 (below b) b) (fin false 1 (negsuc 0)) (mid p) 1 (2 ^ 149) 2 (pow_pos 149)
      (lit< tt) sum_value (refl, refl) ∙ ap (λ (z : ℕ). round binary64 false z (2 ^ 150)) (mul-one (mid p))))
      (exact (mid p) s.0 s.1 150 s.2 (lt_of_lt_of_le s.3 (lit≤ tt)) (le_trans s.4 (lit≤ tt))
      (lit≤ tt))

  pub bar_value : HasValue (bar b) false (mid (to_bits binary32 b) * mid (to_bits binary32 b)) (2 ^ 300)
  bar_value =
      let p = to_bits binary32 b in
      let s = mid_short p (plain_small b q) in
      subst (λ (x : Float). HasValue x false (mid p * mid p) (2 ^ 300))
      (sym (mul_value binary64 (middle b) (middle b) (mid p) (mid p) (2 ^ 150) (2 ^ 150) (pow_pos 150)
      (pow_pos 150) middle_value middle_value))
      (exact (mid p * mid p) (s.0 * s.0) (s.1 + s.1) 300 (square (mid p) s.0 s.1 s.2)
      (small s.0 s.3) (twice s.1 s.4) (lit≤ tt))
    where
      square : (w c k : ℕ) → w ≡ c * 2 ^ k → w * w ≡ c * c * 2 ^ (k + k)
      square w c k h =
          ap (λ (z : ℕ). z * z) h ∙ mul-mul-mul_comm c (2 ^ k) c (2 ^ k) ∙ ap (λ (z : ℕ). c * c * z)
          (sym (pow-add 2 k k))

      small : (o : ℕ) → o < 33554432 → o * o < 2 ^ 53
      small o h = let l : o ≤ 33554431 = omega arith in omega (arith, mul-le-mul l l)

      twice : (k : ℕ) → k ≤ 254 → k + k ≤ 508
      twice k h = omega arith

  -- a comparison with b of a root is one with `bar b` of what the root is of
  pub root_bar
      : (x : Float) → T (plain x) → (T (le b (root_of x)) → T (le (bar b) x)) × (T (le (bar b) x)
      → T (le b (root_of x)))
  root_bar x h =
      let p = to_bits binary32 b in
      let r = root_reaches x b h q in (
        λ l. le_of_values (bar b) x (mid p * mid p) (2 ^ 300) (units x) (2 ^ 149) (pow_pos 300)
            (pow_pos 149) bar_value (plain_value x h)
            (le_trans (mul-le-mul_right (2 ^ 149) (r.0 l)) (le_of_eq (mul_assoc (units x) (2 ^ 151) (2 ^ 149)))),
        λ l. r.1 (le_of_mul-le-mul_right
            (le_trans (le→fractions (bar b) x (mid p * mid p) (2 ^ 300) (units x) (2 ^ 149) (pow_pos 300)
            (pow_pos 149) bar_value (plain_value x h) l) (le_of_eq (sym (mul_assoc (units x) (2 ^ 151) (2 ^ 149)))))
            (pow_pos 149)),
      )

-- the same for every b that is plain, with what the code works out

zero_le : (x : Float) → T (plain x) → T (le (fin false 0 (pos 0)) x)
zero_le x h =
    le_of_values (fin false 0 (pos 0)) x 0 1 (units x) (2 ^ 149) (lit< tt) (pow_pos 149) (refl, refl)
    (plain_value x h) (none (units x))
  where
    none : (n : ℕ) → 0 * 2 ^ 149 ≤ n * 1
    none n = zero_least (n * 1)
      where
        zero_least : (n : ℕ) → 0 ≤ n
        zero_least n = omega arith

-- what is plain and not above zero is zero
not_above : (b : Float) → T (plain b) → lt (fin false 0 (pos 0)) b ≡ false → units b ≡ 0
unfolding lt
not_above nan h l = absurd h
not_above (inf s) h l = absurd h
not_above (fin true m e) h l = absurd h
not_above (fin false zero e) h l =
    ap (λ (n : ℕ). n * 2 ^ 149 / down e) (zero-mul (up e)) ∙ ap (λ (n : ℕ). n / down e) (zero-mul (2 ^ 149))
    ∙ zero-div (down e)
not_above (fin false (suc m) e) h l =
    absurd (subst (λ (b : Bool). T b) l (lt→ltb (0 * 1 * down e) (suc m * up e * 1)
    (above (0 * 1 * down e) (suc m * up e) (zero-mul (down e)) (mul-pos (zero-lt-suc m) (up_pos e)))))
  where
    above : (a b : ℕ) → a ≡ 0 → 0 < b → a < b * 1
    above a b e h = omega arith

pub bar_law
    : (b x : Float) → T (plain b) → T (plain x) → (T (le b (root_of x))
    → T (le (bar_of b) x)) × (T (le (bar_of b) x) → T (le b (root_of x)))
unfolding bar_of
bar_law b x q h = go (lt (fin false 0 (pos 0)) b) refl
  where
    least : (n m : ℕ) → n ≡ 0 → n ≤ m
    least n m e = omega arith

    go : (t : Bool) → lt (fin false 0 (pos 0)) b ≡ t
        → (T (le b (root_of x)) → T (le (cond t (bar b) (fin false 0 (pos 0))) x)) ×
        (T (le (cond t (bar b) (fin false 0 (pos 0))) x) → T (le b (root_of x)))
    go true e = root_bar b q x h
    go false e = (
      λ _. zero_le x h,
      λ _. units→le b (root_of x) q (root_plain x h)
          (least (units b) (units (root_of x)) (not_above b q e)),
    )
