-- Finite values of bounded size: a sum, a difference and a product of such is finite and no larger than the bounds' sum
-- or product, where the format holds that. By the rounding of one fraction. Assumes nothing.
use mathlib.Core.Path.{◌≡◌, refl, sym, subst, ◌∙◌}
use mathlib.Core.Bool.{Bool, true, false, true≢false}
use Prim.Native.Nat.{ℕ, ◌+◌, ◌*◌, ◌^◌, ◌≤◌, ◌<◌}
use native.Mathlib.Nat.{mul-pos, add-mul, mul_assoc, mul_comm, mul_right_comm}
use native.Mathlib.Nat.{mul-le-mul_right, le_of_mul-le-mul_right, mul-one, le_trans as le-trans-ℕ}
use native.Mathlib.Omega.{arith}
use lib.Dec.{T, lit<}
use lib.IntN.{ℤ}
use lib.Ieee.{Float, nan, inf, fin, Format, prec, up, round, neg, add, sub, le}
use lib.Ieee.Exact.{HasValue}
use lib.Ieee.Back.{round_whole}
use lib.Ieee.Positive.{den, den_pos}
use lib.Ieee.Order.{round_mono}
use lib.Ieee.Scale.{finite}
use Rattle.scalar.specs.Extremes.{fmax, fmin}
use Rattle.float_order.specs.Inside.Order.{credit, debit, AtMost, zero_f, Apart, Rounded, Bounded, Exactly}
use Rattle.float_order.proofs.Order.{le→at_most, at_most→le, le_right, le_bottom, top_le, le_trans, neg_le}
use Rattle.float_order.proofs.Extremes.{fmax_either, fmin_either}
use Rattle.float_order.proofs.Rounding.{zero_le_zero, zero_zero, round_zero, round_neg, no_debit, add_rounded}
use Rattle.float_order.proofs.Rounding.{neg_finite}

-- what lies between finite values is finite
pub finite_between
    : (lo x hi : Float) → T (finite lo) → T (finite hi) → T (le lo x) → T (le x hi) → T (finite x)
finite_between lo nan hi p q h k = absurd (le_right lo nan h)
finite_between lo (inf true) hi p q h k = subst (λ (u : Float). T (finite u)) (le_bottom lo h) p
finite_between lo (inf false) hi p q h k = subst (λ (u : Float). T (finite u)) (top_le hi k) q
finite_between lo (fin s m e) hi p q h k = tt

pub within_more : (a b : ℕ) (x : Float) → a ≤ b → Bounded a x → Bounded b x
within_more a b x h w = record { finite = w.finite; size = le-trans-ℕ w.size (mul-le-mul_right (den x) h) }

pub within_neg : (b : ℕ) (x : Float) → Bounded b x → Bounded b (neg x)
within_neg b x w = record { finite = neg_finite x w.finite; size = size x w.size }
  where
    size : (x : Float) → credit x + debit x ≤ b * den x → credit (neg x) + debit (neg x) ≤ b * den (neg x)
    size nan h = unfold neg in h
    size (inf s) h = unfold neg in h
    size (fin true m e) h = unfold neg in (omega arith)
    size (fin false m e) h = unfold neg in (omega arith)

-- ---- a value that is b, and what it bounds
value_finite : (y : Float) (b : ℕ) → HasValue y false b 1 → T (finite y)
value_finite nan b h = h
value_finite (inf s) b h = h
value_finite (fin s m e) b h = tt

value_credit : (y : Float) (b : ℕ) → HasValue y false b 1 → credit y ≡ b * den y
value_credit nan b h = absurd h
value_credit (inf s) b h = absurd h
value_credit (fin false m e) b h = sym (mul-one (m * up e)) ∙ h.1
value_credit (fin true m e) b h = absurd (true≢false h.0)

value_debit : (y : Float) (b : ℕ) → HasValue y false b 1 → debit y ≡ 0
value_debit nan b h = absurd h
value_debit (inf s) b h = absurd h
value_debit (fin false m e) b h = refl
value_debit (fin true m e) b h = absurd (true≢false h.0)

-- 0 ≤ x ≤ b
pub within_of_plus : (b : ℕ) (x y : Float) → HasValue y false b 1 → T (le zero_f x) → T (le x y) → Bounded b x
within_of_plus b x y v h k =
    let p = finite_between zero_f x y tt (value_finite y b v) h k in
    let a : AtMost x y = le→at_most x y p (value_finite y b v) k in
    record {
      finite = p;
      size = le_of_mul-le-mul_right
          (short (credit x) (debit x) (den x) (credit y) (debit y) (den y) (no_debit x p h) (value_credit y b v)
          (value_debit y b v) a) (den_pos y);
    }
  where
    short
        : (c d e c' d' e' : ℕ) → d ≡ 0 → c' ≡ b * e' → d' ≡ 0 → c * e' + d' * e ≤ c' * e + d * e'
        → (c + d) * e' ≤ b * e * e'
    short c d e c' d' e' D C' D' h =
        rw (mul_right_comm b e e', ← C', D) (omega (arith, rw (D, D') at h, add-mul c 0 e'))

pub neg_neg : (x : Float) → neg (neg x) ≡ x
unfolding neg
neg_neg nan = refl
neg_neg (inf true) = refl
neg_neg (inf false) = refl
neg_neg (fin true m e) = refl
neg_neg (fin false m e) = refl

-- -b ≤ x ≤ b, as a program tests it: y is the constant b
pub within_of : (b : ℕ) (x y : Float) → HasValue y false b 1 → T (le (neg y) x) → T (le x y) → Bounded b x
within_of b x y v h k =
    go x (finite_between (neg y) x y (neg_finite y (value_finite y b v)) (value_finite y b v) h k) h k
  where
    plus : (m : ℕ) (e : ℤ) → T (le zero_f (fin false m e))
    plus m e = at_most→le zero_f (fin false m e) tt tt (omega arith)

    go : (x : Float) → T (finite x) → T (le (neg y) x) → T (le x y) → Bounded b x
    go nan p h k = absurd p
    go (inf s) p h k = absurd p
    go (fin false m e) p h k = within_of_plus b (fin false m e) y v (plus m e) k
    go (fin true m e) p h k =
        unfold neg in (within_neg b (fin false m e) (within_of_plus b (fin false m e) y v (plus m e)
        (subst (λ (u : Float). T (le (fin false m e) u)) (neg_neg y) (neg_le (neg y) (fin true m e) h))))

pub within_le : (b : ℕ) (x y : Float) → HasValue y false b 1 → Bounded b x → T (le x y)
within_le b x y v w =
    at_most→le x y w.finite (value_finite y b v)
    (short (credit x) (debit x) (den x) (credit y) (debit y) (den y) (value_credit y b v) (value_debit y b v) w.size)
  where
    short
        : (c d e c' d' e' : ℕ) → c' ≡ b * e' → d' ≡ 0 → c + d ≤ b * e
        → c * e' + d' * e ≤ c' * e + d * e'
    short c d e c' d' e' C' D' h =
        rw (C', D', mul_right_comm b e' e) (omega (arith, mul-le-mul_right e' h, add-mul c d e'))

pub within_ge : (b : ℕ) (x y : Float) → HasValue y false b 1 → Bounded b x → T (le (neg y) x)
within_ge b x y v w =
    subst (λ (u : Float). T (le (neg y) u)) (neg_neg x) (neg_le (neg x) y (within_le b (neg x) y v (within_neg b x w)))

-- ---- rounding stays within a bound that the format holds
plus_within : (f : Format) (k c b : ℕ) → Exactly f b → 0 < c → k ≤ b * c → Bounded b (round f false k c)
plus_within f k c b v C h =
    within_of_plus b (round f false k c) (round f false b 1) v
    (le_trans zero_f (round f false 0 c) (round f false k c)
    (zero_le_zero zero_f (round f false 0 c) zero_zero (round_zero f false c C))
    (round_mono f 0 c k c C C (omega arith)))
    (round_mono f k c b 1 C (lit< tt) (omega arith))

pub round_within
    : (f : Format) (s : Bool) (k c b : ℕ) → Exactly f b → 0 < c → k ≤ b * c → Bounded b (round f s k c)
round_within f false k c b v C h = plus_within f k c b v C h
round_within f true k c b v C h =
    rw (round_neg f false k c) (within_neg b (round f false k c) (plus_within f k c b v C h))

apart_le : (s : Bool) (k p n : ℕ) → Apart s k p n → k ≤ p + n
apart_le false k p n h = omega arith
apart_le true k p n h = omega arith

rounded_within
    : (f : Format) (r : Float) (p n c b : ℕ) → Exactly f b → 0 < c → Rounded f r p n c → p + n ≤ b * c
    → Bounded b r
rounded_within f r p n c b v C a h =
    rw a.is (round_within f a.sign a.size c b v C
    (le-trans-ℕ (apart_le a.sign a.size p n a.apart) h))

-- ---- sums, differences and products
module _ (f : Format) (a b c : ℕ) (held : Exactly f c) (x y : Float) (wx : Bounded a x) (wy : Bounded b y) where
  pub add_within : a + b ≤ c → Bounded c (add f x y)
  add_within h =
      rounded_within f (add f x y) _ _ (den x * den y) c held (mul-pos (den_pos x) (den_pos y))
      (add_rounded f x y wx.finite wy.finite)
      (total (credit x) (debit x) (den x) (credit y) (debit y) (den y) wx.size wy.size)
    where
      total
          : (p q e p' q' e' : ℕ) → p + q ≤ a * e → p' + q' ≤ b * e'
          → p * e' + p' * e + (q * e' + q' * e) ≤ c * (e * e')
      total p q e p' q' e' g k =
          let u = simp (add-mul, mul_assoc) at (mul-le-mul_right e' g) in
          let w = simp (add-mul, mul_assoc, mul_comm) at (mul-le-mul_right e k) in
          let z = simp add-mul at (mul-le-mul_right (e * e') h) in
          simp mul_comm (omega (arith, u, w, z))

pub sub_within
    : (f : Format) (a b c : ℕ) → Exactly f c → (x y : Float) → Bounded a x → Bounded b y → a + b ≤ c
    → Bounded c (sub f x y)
unfolding sub
sub_within f a b c held x y wx wy h = add_within f a b c held x (neg y) wx (within_neg b y wy) h

pub fmax_within : (b : ℕ) (x y : Float) → Bounded b x → Bounded b y → Bounded b (fmax x y)
fmax_within b = fmax_either (Bounded b)

pub fmin_within : (b : ℕ) (x y : Float) → Bounded b x → Bounded b y → Bounded b (fmin x y)
fmin_within b = fmin_either (Bounded b)

-- ---- what a format holds: every whole number up to 2 ^ prec, and such a number times a power of two, below 2 ^ (emax + 1)
pub held_whole : (f : Format) (b : ℕ) → b ≤ 2 ^ prec f → Exactly f b
held_whole f b h = round_whole f false b h
