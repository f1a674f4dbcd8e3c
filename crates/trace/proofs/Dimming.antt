-- A root that reaches a guess which leaves more than is left does not dim the light: a product and a quotient keep the
-- order, and what is no number is passed over. Assumes nothing.
use mathlib.Core.Path.{◌≡◌, refl, subst, ◌∙◌}
use mathlib.Core.Logic.{⊎_elim}
use mathlib.Core.Bool.{Bool, true, false, cond}
use lib.Dec.{T}
use lib.Ieee.{Float, nan, inf, fin, binary32, div, lt, le, eq}
use Rattle.scalar.specs.F32.{◌⊗◌, ◌⊘◌, f0}
use Rattle.scalar.specs.Extremes.{fmin}
use Rattle.float_order.specs.Inside.Order.{number, zero_f}
use Rattle.float_order.proofs.Order.{yes_of, is_yes, is_not, decide, number_eq, le_refl, le_right, lt_right, lt_le}
use Rattle.float_order.proofs.Order.{lt_le_trans}
use Rattle.float_order.proofs.Rounding.{zero_is, mul_mono, div_mono}

-- the lesser of a and what is more than a, or no number, is a
more : (a b : Float) → T (lt a b) → fmin a b ≡ a
unfolding fmin
more a b h = let e : lt a b ≡ true = is_yes h in rw e

none : (a b : Float) → (T (number b) → ⊥) → fmin a b ≡ a
unfolding fmin
none a b n = let e : eq b b ≡ false = number_eq b ∙ is_not n in rw e (go (lt a b))
  where
    go : (p : Bool) → cond p a a ≡ a
    go true = refl
    go false = refl

divided_number : (x m : Float) → T (number (x ⊘ m)) → T (number x)
unfolding div
divided_number nan m h = h
divided_number (inf s) m h = tt
divided_number (fin s n e) m h = tt

-- r reaches w, and k * w / m is more than res
pub undimmed
    : (res r k m w : Float) → lt f0 w ≡ true → le f0 k ≡ true → lt f0 m ≡ true → lt res (k ⊗ w ⊘ m) ≡ true
    → T (le w r) → fmin res (k ⊗ r ⊘ m) ≡ res
undimmed res r k m w hw hk hm h reach =
    ⊎_elim (λ n. more res (k ⊗ r ⊘ m) (above n)) (none res (k ⊗ r ⊘ m)) (decide (number (k ⊗ r ⊘ m)))
  where
    w-up : T (lt zero_f w)
    w-up = subst (λ (z : Float). T (lt z w)) zero_is (yes_of hw)

    k-up : T (le zero_f k)
    k-up = subst (λ (z : Float). T (le z k)) zero_is (yes_of hk)

    m-up : T (lt zero_f m)
    m-up = subst (λ (z : Float). T (lt z m)) zero_is (yes_of hm)

    guess-number : T (number (k ⊗ w ⊘ m))
    guess-number = lt_right res (k ⊗ w ⊘ m) (yes_of h)

    above : T (number (k ⊗ r ⊘ m)) → T (lt res (k ⊗ r ⊘ m))
    above n =
        lt_le_trans res (k ⊗ w ⊘ m) (k ⊗ r ⊘ m) (yes_of h)
        (div_mono binary32 (k ⊗ w) (k ⊗ r) m
        (mul_mono binary32 k k w r k-up (le_refl k (le_right zero_f k k-up)) (lt_le zero_f w w-up) reach
        (divided_number (k ⊗ w) m guess-number) (divided_number (k ⊗ r) m n)) m-up guess-number n)
