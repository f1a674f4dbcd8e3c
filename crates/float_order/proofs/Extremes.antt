-- The greater, the lesser and the nearer of two floats bound both that are numbers, and are one of them; a NaN is
-- passed over. By the cases of each test. Assumes nothing.
use mathlib.Core.Path.{◌≡◌, refl, sym, ◌∙◌}
use mathlib.Core.Logic.{◌⊎◌, inl, inr}
use mathlib.Core.Bool.{Bool, true, false, cond}
use lib.Dec.{T}
use lib.Ieee.{Float, lt, eq, le}
use Rattle.scalar.specs.Extremes.{fmax, fmin}
use Rattle.float_order.specs.Inside.Order.{number, less_of}
use Rattle.float_order.proofs.Order.{yes_of, not_of, number_eq, le_refl}
use Rattle.float_order.proofs.Order.{lt_le, le_of_not_lt}

either : (P : Float → Type 0) (p q : Bool) (a b : Float) → P a → P b → P (cond p a (cond q b a))
either P true q a b x y = x
either P false true a b x y = y
either P false false a b x y = x

-- what holds of both holds of each of these
pub fmax_either : (P : Float → Type 0) (a b : Float) → P a → P b → P (fmax a b)
unfolding fmax
fmax_either P a b x y = either P (lt b a) (eq b b) a b x y

pub fmin_either : (P : Float → Type 0) (a b : Float) → P a → P b → P (fmin a b)
unfolding fmin
fmin_either P a b x y = either P (lt a b) (eq b b) a b x y

pub less_of_either : (P : Float → Type 0) (a b : Float) → P a → P b → P (less_of a b)
less_of_either P a b x y = go (lt b a)
  where
    go : (p : Bool) → P (cond p b a)
    go true = y
    go false = x

pub less_of_one : (a b : Float) → (less_of a b ≡ a) ⊎ (less_of a b ≡ b)
less_of_one a b = less_of_either (λ (r : Float). (r ≡ a) ⊎ (r ≡ b)) a b (inl refl) (inr refl)

self : (b : Float) → eq b b ≡ true → T (number b)
self b e = yes_of (sym (number_eq b) ∙ e)

no_self : (b : Float) → eq b b ≡ false → T (number b) → ⊥
no_self b e = not_of (sym (number_eq b) ∙ e)

-- ---- the greater bounds both
pub fmax_left : (a b : Float) → T (number a) → T (le a (fmax a b))
unfolding fmax
fmax_left a b h = go (lt b a) (eq b b) refl refl
  where
    go : (p q : Bool) → lt b a ≡ p → eq b b ≡ q → T (le a (cond p a (cond q b a)))
    go true q e f = le_refl a h
    go false true e f = le_of_not_lt a b h (self b f) (not_of e)
    go false false e f = le_refl a h

pub fmax_right : (a b : Float) → T (number b) → T (le b (fmax a b))
unfolding fmax
fmax_right a b h = go (lt b a) (eq b b) refl refl
  where
    go : (p q : Bool) → lt b a ≡ p → eq b b ≡ q → T (le b (cond p a (cond q b a)))
    go true q e f = lt_le b a (yes_of e)
    go false true e f = le_refl b h
    go false false e f = absurd (no_self b f h)

pub fmax_least : (a b z : Float) → T (le a z) → T (le b z) → T (le (fmax a b) z)
fmax_least a b z = fmax_either (λ (r : Float). T (le r z)) a b

-- ---- the lesser is below both
pub fmin_left : (a b : Float) → T (number a) → T (le (fmin a b) a)
unfolding fmin
fmin_left a b h = go (lt a b) (eq b b) refl refl
  where
    go : (p q : Bool) → lt a b ≡ p → eq b b ≡ q → T (le (cond p a (cond q b a)) a)
    go true q e f = le_refl a h
    go false true e f = le_of_not_lt b a (self b f) h (not_of e)
    go false false e f = le_refl a h

pub fmin_right : (a b : Float) → T (number b) → T (le (fmin a b) b)
unfolding fmin
fmin_right a b h = go (lt a b) (eq b b) refl refl
  where
    go : (p q : Bool) → lt a b ≡ p → eq b b ≡ q → T (le (cond p a (cond q b a)) b)
    go true q e f = lt_le a b (yes_of e)
    go false true e f = le_refl b h
    go false false e f = absurd (no_self b f h)

pub fmin_greatest : (z a b : Float) → T (le z a) → T (le z b) → T (le z (fmin a b))
fmin_greatest z a b = fmin_either (λ (r : Float). T (le z r)) a b

-- ---- the nearer is below both, where the best so far is a number
pub less_of_left : (best d : Float) → T (number best) → T (le (less_of best d) best)
less_of_left best d h = go (lt d best) refl
  where
    go : (p : Bool) → lt d best ≡ p → T (le (cond p d best) best)
    go true e = lt_le d best (yes_of e)
    go false e = le_refl best h

pub less_of_right : (best d : Float) → T (number best) → T (number d) → T (le (less_of best d) d)
less_of_right best d h k = go (lt d best) refl
  where
    go : (p : Bool) → lt d best ≡ p → T (le (cond p d best) d)
    go true e = le_refl d k
    go false e = le_of_not_lt best d h k (not_of e)

-- ---- one or the other is a number
