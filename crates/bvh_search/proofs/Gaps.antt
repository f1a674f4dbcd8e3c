-- The greatest of a, b and 0 is a where it is greater than what b has above 0, and else that: by the cases of both.
-- Assumes nothing.
use Rattle.std.proofs.Common.{◌≡◌, Bool, true, false, cond, T, sym, refl, subst}
use lib.Ieee.{Float, of_bits, lt, eq}
use Rattle.scalar.specs.F32.{f0}
use Rattle.scalar.specs.Extremes.{fmax}
use Rattle.float_order.specs.Inside.Order.{number}
use Rattle.float_order.proofs.Order.{yes_of, is_yes, is_not, not_of, number_eq, lt_right, lt_trans}
use Rattle.float_order.proofs.Order.{lt_le_trans, le_of_not_lt}
use Rattle.float_order.proofs.Extremes.{fmax_either}

self : eq f0 f0 ≡ true
unfolding eq of_bits
self = refl

-- what x has above 0
over_zero : (x : Float) → lt f0 x ≡ true → fmax x f0 ≡ x
unfolding fmax
over_zero x e = rw e

not_over : (x : Float) → lt f0 x ≡ false → fmax x f0 ≡ f0
unfolding fmax
not_over x e = rw (e, self)

module _ (a b : Float) where
  first : lt f0 a ≡ true → lt f0 b ≡ false → fmax a b ≡ a
  unfolding fmax
  first e k = go (lt b a) (eq b b) refl refl
    where
      go : (x y : Bool) → lt b a ≡ x → eq b b ≡ y → cond x a (cond y b a) ≡ a
      go true y p q = refl
      go false false p q = refl
      go false true p q =
          let n : T (number b) = subst T (number_eq b) (yes_of q) in
          absurd (not_of k (lt_le_trans f0 a b (yes_of e)
          (le_of_not_lt a b (lt_right f0 a (yes_of e)) n (not_of p))))

  second : lt f0 a ≡ false → lt f0 b ≡ true → lt b a ≡ false
  second e k = is_not (λ l. not_of e (lt_trans f0 b a (yes_of k) l))

  both : lt f0 b ≡ true → fmax a b ≡ cond (lt b a) a b
  unfolding fmax
  both k =
      let q : eq b b ≡ true = is_yes (subst T (sym (number_eq b)) (lt_right f0 b (yes_of k))) in
      rw q

  neither : lt f0 a ≡ false → lt f0 b ≡ false → lt f0 (fmax a b) ≡ false
  neither e k = fmax_either (λ (x : Float). lt f0 x ≡ false) a b e k

  of_two : (x : Bool) → lt f0 a ≡ true → lt f0 b ≡ true → lt f0 (cond x a b) ≡ true
  of_two true e k = e
  of_two false e k = k

  pub gap_is : cond (lt (fmax b f0) a) a (fmax b f0) ≡ fmax (fmax a b) f0
  gap_is = go (lt f0 a) (lt f0 b) refl refl
    where
      go : (x y : Bool) → lt f0 a ≡ x → lt f0 b ≡ y → cond (lt (fmax b f0) a) a (fmax b f0) ≡ fmax (fmax a b) f0
      go true true e k = rw (over_zero b k, both k, over_zero (cond (lt b a) a b) (of_two (lt b a) e k))
      go true false e k = rw (not_over b k, first e k, over_zero a e, e)
      go false true e k = rw (over_zero b k, both k, second e k, over_zero b k)
      go false false e k = rw (not_over (fmax a b) (neither e k), not_over b k, e)
