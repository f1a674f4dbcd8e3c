-- The order of floats: `le` is reflexive, transitive and total on the numbers (all but NaN), and `lt` is its negation
-- the other way round. A finite value is the fraction (credit - debit) / den, so an order of two finite values is one
-- of sums of products, with no case by sign. Assumes nothing.
use mathlib.Core.Path.{◌≡◌, refl, sym, subst}
use mathlib.Core.Logic.{◌⊎◌, inl, inr}
use mathlib.Core.Bool.{Bool, true, false, not, ◌&&◌, ◌||◌}
use Prim.Native.Nat.{ℕ, ◌+◌, ◌*◌, ◌≤◌, ◌<◌}
use native.Mathlib.Nat.{le_of_eq, le_of_lt, eq-or-lt_of_le, le_of_mul-le-mul_right, mul-le-mul_right, add-mul}
use native.Mathlib.Nat.{mul_assoc, mul_comm, mul_left_comm}
use native.Mathlib.Omega.{arith}
use lib.Dec.{T, ltb, eqb, ltb→lt, lt→ltb, nltb→le, eqb→eq, not_T, T_not}
use lib.IntN.{ℤ}
use lib.Ieee.{Float, nan, inf, fin, up, down, lt, eq, le, neg, is_nan}
use lib.Ieee.Fits.{and_l, and_r, and_i, eq→eqb}
use lib.Ieee.Positive.{den, den_pos}
use lib.Ieee.Scale.{finite}
use Rattle.float_order.specs.Inside.Order.{number, credit, debit, AtMost, Under}

-- ---- tests
pub yes_of : {b : Bool} → b ≡ true → T b
yes_of e = subst T (sym e) tt

pub not_of : {b : Bool} → b ≡ false → T b → ⊥
not_of e t = subst T e t

pub is_yes : {b : Bool} → T b → b ≡ true
is_yes {b} t = go b t
  where
    go : (b : Bool) → T b → b ≡ true
    go true t = refl
    go false t = absurd t

pub is_not : {b : Bool} → (T b → ⊥) → b ≡ false
is_not {b} f = go b f
  where
    go : (b : Bool) → (T b → ⊥) → b ≡ false
    go true f = absurd (f tt)
    go false f = refl

pub decide : (b : Bool) → T b ⊎ (T b → ⊥)
decide true = inl tt
decide false = inr (λ t. t)

-- two tests that pass together are the same
pub same_test : (a b : Bool) → (T a → T b) → (T b → T a) → a ≡ b
same_test true true f g = refl
same_test true false f g = absurd (f tt)
same_test false true f g = absurd (g tt)
same_test false false f g = refl

or_l : (a b : Bool) → T a → T (a || b)
or_l true b t = tt
or_l false b t = absurd t

or_r : (a b : Bool) → T b → T (a || b)
or_r true b t = tt
or_r false b t = t

or_split : (a b : Bool) → T (a || b) → T a ⊎ T b
or_split true b t = inl tt
or_split false b t = inr t

-- ---- numbers: all but NaN
pub finite_number : (x : Float) → T (finite x) → T (number x)
finite_number nan h = absurd h
finite_number (inf s) h = absurd h
finite_number (fin s m e) h = tt

-- ---- the tests of two finite values, as the order of the fractions
lt_or_eq : (a b : ℕ) (z : Bool) → T (ltb a b || (eqb a b && z)) → a ≤ b
lt_or_eq a b z t =
    elim (or_split (ltb a b) (eqb a b && z) t) [
      | inl u ↦ le_of_lt (ltb→lt a b u)
      | inr u ↦ le_of_eq
          (eqb→eq a b (and_l (eqb a b) z u))
    ]

gt_or_eq : (a b : ℕ) → T (ltb b a || (eqb a b && true)) → b ≤ a
gt_or_eq a b t =
    elim (or_split (ltb b a) (eqb a b && true) t) [
      | inl u ↦ le_of_lt (ltb→lt b a u)
      | inr u ↦ le_of_eq
          (sym (eqb→eq a b (and_l (eqb a b) true u)))
    ]

of_le : (a b : ℕ) → a ≤ b → T (ltb a b || (eqb a b && true))
of_le a b h =
    elim (eq-or-lt_of_le h) [
      | inl p ↦ or_r (ltb a b) (eqb a b && true)
          (and_i (eqb a b) true (eq→eqb p) tt)
      | inr q ↦ or_l (ltb a b) (eqb a b && true) (lt→ltb a b q)
    ]

of_ge : (a b : ℕ) → b ≤ a → T (ltb b a || (eqb a b && true))
of_ge a b h =
    elim (eq-or-lt_of_le h) [
      | inl p ↦ or_r (ltb b a) (eqb a b && true)
          (and_i (eqb a b) true (eq→eqb (sym p)) tt)
      | inr q ↦ or_l (ltb b a) (eqb a b && true) (lt→ltb b a q)
    ]

zeros : (a b : ℕ) → a + b ≤ 0 → T (eqb a b && eqb a 0)
zeros a b h =
    let p : a ≡ b = omega arith in
    let q : a ≡ 0 = omega arith in
    and_i (eqb a b) (eqb a 0) (eq→eqb p) (eq→eqb q)

minus_plus : (a b : ℕ) → T (ltb 0 (a + b) || (eqb a b && eqb a 0))
minus_plus a b =
    elim (decide (ltb 0 (a + b))) [
      | inl t ↦ or_l (ltb 0 (a + b)) (eqb a b && eqb a 0) t
      | inr f ↦ or_r
          (ltb 0 (a + b)) (eqb a b && eqb a 0) (zeros a b (nltb→le 0 (a + b) (not_T (ltb 0 (a + b)) f)))
    ]

pub le→at_most : (x y : Float) → T (finite x) → T (finite y) → T (le x y) → AtMost x y
unfolding le
le→at_most nan y p q h = absurd p
le→at_most (inf s) y p q h = absurd p
le→at_most (fin s m e) nan p q h = absurd q
le→at_most (fin s m e) (inf t) p q h = absurd q
le→at_most (fin false m e) (fin false n d) p q h = let k = lt_or_eq (m * up e * down d) (n * up d * down e) true h in omega arith
le→at_most (fin false m e) (fin true n d) p q h =
    let k = eqb→eq (m * up e * down d) (n * up d * down e)
    (and_l (eqb (m * up e * down d) (n * up d * down e)) (eqb (m * up e * down d) 0) h) in
    let l = eqb→eq (m * up e * down d) 0 (and_r (eqb (m * up e * down d) (n * up d * down e))
    (eqb (m * up e * down d) 0) h) in
    omega arith
le→at_most (fin true m e) (fin false n d) p q h = omega arith
le→at_most (fin true m e) (fin true n d) p q h = let k = gt_or_eq (m * up e * down d) (n * up d * down e) h in omega arith

pub at_most→le : (x y : Float) → T (finite x) → T (finite y) → AtMost x y → T (le x y)
unfolding le
at_most→le nan y p q h = absurd p
at_most→le (inf s) y p q h = absurd p
at_most→le (fin s m e) nan p q h = absurd q
at_most→le (fin s m e) (inf t) p q h = absurd q
at_most→le (fin false m e) (fin false n d) p q h = of_le (m * up e * down d) (n * up d * down e) (omega arith)
at_most→le (fin false m e) (fin true n d) p q h = zeros (m * up e * down d) (n * up d * down e) (omega arith)
at_most→le (fin true m e) (fin false n d) p q h = minus_plus (m * up e * down d) (n * up d * down e)
at_most→le (fin true m e) (fin true n d) p q h = of_ge (m * up e * down d) (n * up d * down e) (omega arith)

lt→under : (x y : Float) → T (finite x) → T (finite y) → T (lt x y) → Under x y
unfolding lt
lt→under nan y p q h = absurd p
lt→under (inf s) y p q h = absurd p
lt→under (fin s m e) nan p q h = absurd q
lt→under (fin s m e) (inf t) p q h = absurd q
lt→under (fin false m e) (fin false n d) p q h = let k = ltb→lt (m * up e * down d) (n * up d * down e) h in omega arith
lt→under (fin false m e) (fin true n d) p q h = absurd h
lt→under (fin true m e) (fin false n d) p q h = let k = ltb→lt 0 (m * up e * down d + n * up d * down e) h in omega arith
lt→under (fin true m e) (fin true n d) p q h = let k = ltb→lt (n * up d * down e) (m * up e * down d) h in omega arith

under→lt : (x y : Float) → T (finite x) → T (finite y) → Under x y → T (lt x y)
unfolding lt
under→lt nan y p q h = absurd p
under→lt (inf s) y p q h = absurd p
under→lt (fin s m e) nan p q h = absurd q
under→lt (fin s m e) (inf t) p q h = absurd q
under→lt (fin false m e) (fin false n d) p q h = lt→ltb (m * up e * down d) (n * up d * down e) (omega arith)
under→lt (fin false m e) (fin true n d) p q h = none (m * up e * down d) (n * up d * down e) (omega arith)
  where
    none : (a b : ℕ) → a + b < 0 → ⊥
    none a b h = omega arith
under→lt (fin true m e) (fin false n d) p q h = lt→ltb 0 (m * up e * down d + n * up d * down e) (omega arith)
under→lt (fin true m e) (fin true n d) p q h = lt→ltb (n * up d * down e) (m * up e * down d) (omega arith)

-- ---- what is compared is a number
pub le_left : (x y : Float) → T (le x y) → T (number x)
unfolding le
le_left nan y h = absurd h
le_left (inf s) y h = tt
le_left (fin s m e) y h = tt

pub le_right : (x y : Float) → T (le x y) → T (number y)
unfolding le
le_right nan y h = absurd h
le_right (inf s) nan h = absurd h
le_right (inf s) (inf t) h = tt
le_right (inf s) (fin t n d) h = tt
le_right (fin s m e) nan h = absurd h
le_right (fin s m e) (inf t) h = tt
le_right (fin s m e) (fin t n d) h = tt

pub lt_left : (x y : Float) → T (lt x y) → T (number x)
unfolding lt
lt_left nan y h = absurd h
lt_left (inf s) y h = tt
lt_left (fin s m e) y h = tt

pub lt_right : (x y : Float) → T (lt x y) → T (number y)
unfolding lt
lt_right nan y h = absurd h
lt_right (inf s) nan h = absurd h
lt_right (inf s) (inf t) h = tt
lt_right (inf s) (fin t n d) h = tt
lt_right (fin s m e) nan h = absurd h
lt_right (fin s m e) (inf t) h = tt
lt_right (fin s m e) (fin t n d) h = tt

-- ---- the infinities are the least number and the greatest
pub bottom_le : (y : Float) → T (number y) → T (le (inf true) y)
unfolding le
bottom_le nan h = h
bottom_le (inf true) h = tt
bottom_le (inf false) h = tt
bottom_le (fin s m e) h = tt

pub le_top : (x : Float) → T (number x) → T (le x (inf false))
unfolding le
le_top nan h = h
le_top (inf true) h = tt
le_top (inf false) h = tt
le_top (fin s m e) h = tt

pub le_bottom : (x : Float) → T (le x (inf true)) → x ≡ inf true
unfolding le
le_bottom nan h = absurd h
le_bottom (inf true) h = refl
le_bottom (inf false) h = absurd h
le_bottom (fin s m e) h = absurd h

pub top_le : (y : Float) → T (le (inf false) y) → y ≡ inf false
unfolding le
top_le nan h = absurd h
top_le (inf true) h = absurd h
top_le (inf false) h = refl
top_le (fin s m e) h = absurd h

-- ---- `le` is reflexive and transitive
pub le_refl : (x : Float) → T (number x) → T (le x x)
le_refl nan h = absurd h
le_refl (inf true) h = bottom_le (inf true) h
le_refl (inf false) h = le_top (inf false) h
le_refl (fin s m e) h = at_most→le (fin s m e) (fin s m e) tt tt (omega arith)

-- (a - a') / c ≤ (b - b') / d ≤ (k - k') / l
chain
    : (a a' c b b' d k k' l : ℕ) → 0 < d → a * d + b' * c ≤ b * c + a' * d
    → b * l + k' * d ≤ k * d + b' * l → a * l + k' * c ≤ k * c + a' * l
chain a a' c b b' d k k' l D h g =
    let p = simp (add-mul, mul_assoc, mul_comm) at (mul-le-mul_right l h) in
    let q = simp (add-mul, mul_assoc, mul_comm, mul_left_comm) at (mul-le-mul_right c g) in
    let r : (a * l + k' * c) * d ≤ (k * c + a' * l) * d = simp (add-mul, mul_assoc, mul_comm) (omega (arith, p, q)) in
    le_of_mul-le-mul_right r D

pub at_most_trans : (x y z : Float) → AtMost x y → AtMost y z → AtMost x z
at_most_trans x y z h k =
    chain (credit x) (debit x) (den x) (credit y) (debit y) (den y) (credit z) (debit z) (den z) (den_pos y) h k

le_trans_finite
    : (x y z : Float) → T (finite x) → T (finite y) → T (finite z) → T (le x y) → T (le y z) → T (le x z)
le_trans_finite x y z p q r h k =
    at_most→le x z p r (at_most_trans x y z (le→at_most x y p q h) (le→at_most y z q r k))

pub le_trans : (x y z : Float) → T (le x y) → T (le y z) → T (le x z)
le_trans x y z h k = go x y z h k
  where
    go : (x y z : Float) → T (le x y) → T (le y z) → T (le x z)
    go nan y z h k = absurd (le_left nan y h)
    go (inf true) y z h k = bottom_le z (le_right y z k)
    go (inf false) y z h k = subst (λ (u : Float). T (le u z)) (top_le y h) k
    go (fin s m e) nan z h k = absurd (le_left nan z k)
    go (fin s m e) (inf true) z h k = subst (λ (u : Float). T (le u z)) (sym (le_bottom (fin s m e) h)) k
    go (fin s m e) (inf false) z h k = subst (λ (u : Float). T (le (fin s m e) u)) (sym (top_le z k)) h
    go (fin s m e) (fin t n d) nan h k = absurd (le_right (fin t n d) nan k)
    go (fin s m e) (fin t n d) (inf true) h k = subst (λ (u : Float). T (le (fin s m e) u)) (le_bottom (fin t n d) k) h
    go (fin s m e) (fin t n d) (inf false) h k = le_top (fin s m e) tt
    go (fin s m e) (fin t n d) (fin u i c) h k = le_trans_finite (fin s m e) (fin t n d) (fin u i c) tt tt tt h k

-- ---- `lt` is the negation of `le` the other way round
lt_not_le_finite : (x y : Float) → T (finite x) → T (finite y) → T (lt x y) → T (le y x) → ⊥
lt_not_le_finite x y p q h k = let a = lt→under x y p q h in let b = le→at_most y x q p k in omega arith

pub lt_not_le : (x y : Float) → T (lt x y) → T (le y x) → ⊥
unfolding lt le
lt_not_le nan y h k = h
lt_not_le (inf true) nan h k = h
lt_not_le (inf true) (inf true) h k = h
lt_not_le (inf true) (inf false) h k = k
lt_not_le (inf true) (fin t n d) h k = k
lt_not_le (inf false) nan h k = h
lt_not_le (inf false) (inf t) h k = h
lt_not_le (inf false) (fin t n d) h k = h
lt_not_le (fin s m e) nan h k = h
lt_not_le (fin s m e) (inf true) h k = h
lt_not_le (fin s m e) (inf false) h k = k
lt_not_le (fin s m e) (fin t n d) h k = lt_not_le_finite (fin s m e) (fin t n d) tt tt h k

le_or_lt_finite : (x y : Float) → T (finite x) → T (finite y) → T (le x y) ⊎ T (lt y x)
le_or_lt_finite x y p q =
    elim (decide (lt y x)) [
      | inl h ↦ inr h
      | inr f ↦ inl
          (at_most→le x y p q (not-under x y (λ u. f (under→lt y x q p u))))
    ]
  where
    not-under : (x y : Float) → (Under y x → ⊥) → AtMost x y
    not-under x y f =
        le-of-not (credit x * den y + debit y * den x) (credit y * den x + debit x * den y) (λ g. f (omega (arith, g)))
      where
        le-of-not : (m n : ℕ) → (n < m → ⊥) → m ≤ n
        le-of-not m n f = omega arith

-- `le` is total on the numbers
pub le_or_lt : (x y : Float) → T (number x) → T (number y) → T (le x y) ⊎ T (lt y x)
le_or_lt nan y p q = absurd p
le_or_lt (inf true) y p q = inl (bottom_le y q)
le_or_lt (inf false) nan p q = absurd q
le_or_lt (inf false) (inf true) p q = inr (unfold lt in tt)
le_or_lt (inf false) (inf false) p q = inl (le_top (inf false) tt)
le_or_lt (inf false) (fin t n d) p q = inr (unfold lt in tt)
le_or_lt (fin s m e) nan p q = absurd q
le_or_lt (fin s m e) (inf true) p q = inr (unfold lt in tt)
le_or_lt (fin s m e) (inf false) p q = inl (le_top (fin s m e) tt)
le_or_lt (fin s m e) (fin t n d) p q = le_or_lt_finite (fin s m e) (fin t n d) tt tt

pub le_of_not_lt : (x y : Float) → T (number x) → T (number y) → (T (lt y x) → ⊥) → T (le x y)
le_of_not_lt x y p q f = elim (le_or_lt x y p q) [ inl h ↦ h | inr l ↦ absurd (f l) ]

pub lt_of_not_le : (x y : Float) → T (number x) → T (number y) → (T (le y x) → ⊥) → T (lt x y)
lt_of_not_le x y p q f = elim (le_or_lt y x q p) [ inl h ↦ absurd (f h) | inr l ↦ l ]

pub lt_is_not_le : (x y : Float) → T (number x) → T (number y) → lt x y ≡ not (le y x)
lt_is_not_le x y p q =
    same_test (lt x y) (not (le y x)) (λ h. not_T (le y x) (lt_not_le x y h))
    (λ h. lt_of_not_le x y p q (T_not (le y x) h))

-- ---- strict and not
pub lt_le : (x y : Float) → T (lt x y) → T (le x y)
unfolding le
lt_le x y h = or_l (lt x y) (eq x y) h

pub lt_irrefl : (x : Float) → T (lt x x) → ⊥
lt_irrefl x h = lt_not_le x x h (le_refl x (lt_left x x h))

pub lt_le_trans : (x y z : Float) → T (lt x y) → T (le y z) → T (lt x z)
lt_le_trans x y z h k = lt_of_not_le x z (lt_left x y h) (le_right y z k) (λ g. lt_not_le x y h (le_trans y z x k g))

pub le_lt_trans : (x y z : Float) → T (le x y) → T (lt y z) → T (lt x z)
le_lt_trans x y z h k = lt_of_not_le x z (le_left x y h) (lt_right y z k) (λ g. lt_not_le y z k (le_trans z x y g h))

pub lt_trans : (x y z : Float) → T (lt x y) → T (lt y z) → T (lt x z)
lt_trans x y z h k = lt_le_trans x y z h (lt_le y z k)

-- of two values that are each at most the other: `eq`, which takes -0 and +0 as one
pub eq_le : (x y : Float) → T (eq x y) → T (le x y)
unfolding le
eq_le x y h = or_r (lt x y) (eq x y) h

pub le_antisym : (x y : Float) → T (le x y) → T (le y x) → T (eq x y)
unfolding le
le_antisym x y h k = elim (or_split (lt x y) (eq x y) h) [ inl l ↦ absurd (lt_not_le x y l k) | inr e ↦ e ]

-- ---- what is no number
pub number_is : (x : Float) → number x ≡ not (is_nan x)
unfolding is_nan
number_is nan = refl
number_is (inf s) = refl
number_is (fin s m e) = refl

-- as a program tests it
pub number_eq : (x : Float) → eq x x ≡ number x
number_eq x =
    same_test (eq x x) (number x) (λ h. le_left x x (eq_le x x h)) (λ h. le_antisym x x (le_refl x h) (le_refl x h))

-- ---- `neg` turns the order round
pub neg_number : (x : Float) → T (number x) → T (number (neg x))
unfolding neg
neg_number nan h = h
neg_number (inf s) h = tt
neg_number (fin s m e) h = tt

neg_at_most : (x y : Float) → T (finite x) → T (finite y) → AtMost x y → AtMost (neg y) (neg x)
unfolding neg
neg_at_most nan y p q h = absurd p
neg_at_most (inf s) y p q h = absurd p
neg_at_most (fin s m e) nan p q h = absurd q
neg_at_most (fin s m e) (inf t) p q h = absurd q
neg_at_most (fin false m e) (fin false n d) p q h = omega arith
neg_at_most (fin false m e) (fin true n d) p q h = omega arith
neg_at_most (fin true m e) (fin false n d) p q h = omega arith
neg_at_most (fin true m e) (fin true n d) p q h = omega arith

neg_le_finite
    : (s : Bool) (m : ℕ) (e : ℤ) (t : Bool) (n : ℕ) (d : ℤ) → T (le (fin s m e) (fin t n d))
    → T (le (neg (fin t n d)) (neg (fin s m e)))
unfolding neg
neg_le_finite s m e t n d h =
    at_most→le (fin (not t) n d) (fin (not s) m e) tt tt
    (neg_at_most (fin s m e) (fin t n d) tt tt (le→at_most (fin s m e) (fin t n d) tt tt h))

pub neg_le : (x y : Float) → T (le x y) → T (le (neg y) (neg x))
unfolding neg
neg_le nan y h = absurd (le_left nan y h)
neg_le (inf true) y h = le_top (neg y) (neg_number y (le_right (inf true) y h))
neg_le (inf false) y h = subst (λ (u : Float). T (le (neg u) (inf true))) (sym (top_le y h)) (bottom_le (inf true) tt)
neg_le (fin s m e) nan h = absurd (le_right (fin s m e) nan h)
neg_le (fin s m e) (inf true) h = absurd (unfold le in h)
neg_le (fin s m e) (inf false) h = bottom_le (fin (not s) m e) tt
neg_le (fin s m e) (fin t n d) h = neg_le_finite s m e t n d h
