-- Sums, differences, products and quotients keep the order, the infinities among them, wherever they are numbers. Each
-- operation on finite values rounds one fraction (p - n) / c, and rounding keeps the order of fractions of either sign.
-- Assumes nothing.
use mathlib.Core.Path.{◌≡◌, refl, sym, ap, subst, ◌∙◌}
use mathlib.Core.Logic.{◌⊎◌, inl, inr}
use mathlib.Core.Bool.{Bool, true, false, true≢false, cond, not}
use Prim.Native.Nat.{ℕ, zero, suc, ◌+◌, ◌-◌, ◌*◌, ◌^◌, ◌≤◌, ◌<◌}
use native.Mathlib.Nat.{le_of_eq, mul-pos, add-mul, mul_assoc, mul_comm, mul_left_comm, mul-le-mul, mul-le-mul_right}
use native.Mathlib.Nat.{zero-mul, mul-zero, add-zero}
use native.Mathlib.Omega.{arith}
use borrow.Author.Tests.{ltb-true, ltb-false}
use lib.Dec.{T, ltb, eqb, eqb-suc-zero, lit<}
use lib.IntN.{ℤ, pos}
use lib.Pow.{pow_pos}
use lib.Ieee.{Float, nan, inf, fin, Format, prec, emax, low, up, down, unlike, odd, units, round, of_bits, neg, sum, add}
use lib.Ieee.{sub, mul, div, lt, le}
use lib.Ieee.Fits.{up_pos, eq→eqb, round_is}
use lib.Ieee.Exact.{HasValue, round_exact}
use lib.Ieee.Positive.{den, den_pos}
use lib.Ieee.Order.{round_mono}
use lib.Ieee.Scale.{finite}
use Rattle.scalar.specs.F32.{f0}
use Rattle.float_order.specs.Inside.Order.{number, credit, debit, zero_f, Zero, Apart, Rounded}
use Rattle.float_order.proofs.Order.{le→at_most, at_most→le, le_left, le_right, bottom_le, le_top, top_le}
use Rattle.float_order.proofs.Order.{le_refl, le_trans, le_bottom, lt_not_le, neg_le, neg_number}

-- ---- the sign goes through rounding
odd_neg : (d : ℕ) (s : Bool) (q k l : ℕ) → odd d (not s) q k l ≡ neg (odd d s q k l)
unfolding odd neg
odd_neg d s zero k l = refl
odd_neg d s (suc q) k l = refl

units_neg : (f : Format) (s : Bool) (q k : ℕ) → units f (not s) q k ≡ neg (units f s q k)
unfolding units neg
units_neg f s q k = go (ltb (q * 2 ^ k) (2 ^ (low f + suc (emax f))))
  where
    go
        : (b : Bool) → cond b (odd (suc (prec f)) (not s) q k (low f)) (inf (not s)) ≡ neg
        (cond b (odd (suc (prec f)) s q k (low f)) (inf s))
    go true = odd_neg (suc (prec f)) s q k (low f)
    go false = refl

pub round_neg : (f : Format) (s : Bool) (a b : ℕ) → round f (not s) a b ≡ neg (round f s a b)
round_neg f s a b = round_is f (not s) a b ∙ units_neg f s _ _ ∙ ap neg (sym (round_is f s a b))

no_size : (a b d : ℕ) → 0 < b → a * b ≡ 0 * d → a ≡ 0
no_size a b d B h =
    elim (decide-zero a) [ inl e ↦ e | inr p ↦ absurd (none (a * b) (mul-pos p B) (h ∙ zero-mul d)) ]
  where
    decide-zero : (a : ℕ) → (a ≡ 0) ⊎ (0 < a)
    decide-zero zero = inl refl
    decide-zero (suc a) = inr (omega arith)

    none : (n : ℕ) → 0 < n → n ≡ 0 → ⊥
    none n h e = omega arith

zero_of : (x : Float) (s : Bool) (b : ℕ) → 0 < b → HasValue x s 0 b → Zero x
zero_of nan s b B h = absurd h
zero_of (inf t) s b B h = absurd h
zero_of (fin true m e) s b B h = record { fin = tt; gain = refl; loss = no_size (m * up e) b (down e) B h.1 }
zero_of (fin false m e) s b B h = record { fin = tt; gain = no_size (m * up e) b (down e) B h.1; loss = refl }

pub zero_le_zero : (x y : Float) → Zero x → Zero y → T (le x y)
zero_le_zero x y p q =
    at_most→le x y p.fin q.fin (rw (p.gain, p.loss, q.gain, q.loss) (omega arith))

pub round_zero : (f : Format) (s : Bool) (b : ℕ) → 0 < b → Zero (round f s 0 b)
round_zero f s b B =
    zero_of (round f s 0 b) s b B (round_exact f s 0 b 0 0 B (pow_pos (prec f)) (pow_pos (low f + suc (emax f)))
    (none (2 ^ low f) b))
  where
    none : (l b : ℕ) → 0 * l ≡ 0 * 1 * b
    none l b = omega arith

-- ---- rounding keeps the order of fractions of either sign
down_mono
    : (f : Format) (a b c d : ℕ) → 0 < b → 0 < d → c * b ≤ a * d
    → T (le (round f true a b) (round f true c d))
down_mono f a b c d B D h =
    rw (round_neg f false a b, round_neg f false c d)
    (neg_le (round f false c d) (round f false a b) (round_mono f c d a b D B h))

none_left : (b : ℕ) (n : ℕ) → 0 * b ≤ n
none_left b n = omega arith

minus_le_plus : (f : Format) (a b c d : ℕ) → 0 < b → 0 < d → T (le (round f true a b) (round f false c d))
minus_le_plus f a b c d B D =
    le_trans (round f true a b) (round f true 0 b) (round f false c d) (down_mono f a b 0 b B B (none_left b (a * b)))
    (le_trans (round f true 0 b) (round f false 0 d) (round f false c d)
    (zero_le_zero (round f true 0 b) (round f false 0 d) (round_zero f true b B) (round_zero f false d D))
    (round_mono f 0 d c d D D (none_left d (c * d))))

pub signed_mono
    : (f : Format) (s : Bool) (k p n c : ℕ) (s' : Bool) (k' p' n' c' : ℕ) → 0 < c → 0 < c' → Apart s k p n
    → Apart s' k' p' n' → p * c' + n' * c ≤ p' * c + n * c' → T (le (round f s k c) (round f s' k' c'))
signed_mono f false k p n c false k' p' n' c' C C' a b h =
    round_mono f k c k' c' C C'
    (omega (arith, h, ap (λ (z : ℕ). z * c') a, ap (λ (z : ℕ). z * c) b, add-mul n k c', add-mul n' k' c))
signed_mono f true k p n c true k' p' n' c' C C' a b h =
    down_mono f k c k' c' C C'
    (omega (arith, h, ap (λ (z : ℕ). z * c') a, ap (λ (z : ℕ). z * c) b, add-mul p k c', add-mul p' k' c))
signed_mono f true k p n c false k' p' n' c' C C' a b h = minus_le_plus f k c k' c' C C'
signed_mono f false k p n c true k' p' n' c' C C' a b h =
    let g : k * c' + k' * c ≤ 0 = omega (
      arith,
      h,
      ap (λ (z : ℕ). z * c') a,
      ap (λ (z : ℕ). z * c) b,
      add-mul n k c',
      add-mul p' k' c,
    ) in
    let i : k ≡ 0 = no_size k c' 0 C' (omega arith) in
    let j : k' ≡ 0 = no_size k' c 0 C (omega arith) in
    rw (i, j) (zero_le_zero (round f false 0 c) (round f true 0 c') (round_zero f false c C) (round_zero f true c' C'))

pub rounded_mono
    : (f : Format) (r r' : Float) (p n c p' n' c' : ℕ) → 0 < c → 0 < c' → Rounded f r p n c
    → Rounded f r' p' n' c' → p * c' + n' * c ≤ p' * c + n * c' → T (le r r')
rounded_mono f r r' p n c p' n' c' C C' a b h =
    rw (a.is, b.is) (signed_mono f a.sign a.size p n c b.sign b.size p' n' c' C C' a.apart
    b.apart h)

-- +a - b, and -a + b
mixed : (f : Format) (a b c p n : ℕ) → p ≡ a → n ≡ b → Rounded f (sum f false a true b c) p n c
unfolding sum
mixed f a b c p n P N = go (ltb a b) refl
  where
    go : (z : Bool) → ltb a b ≡ z → Rounded f (cond z (round f true (b - a) c) (round f false (a - b) c)) p n c
    go true e = let l = ltb-true a b e in record { sign = true; size = b - a; apart = omega arith; is = refl }
    go false e = let l = ltb-false a b e in record { sign = false; size = a - b; apart = omega arith; is = refl }

mixed' : (f : Format) (a b c p n : ℕ) → p ≡ b → n ≡ a → Rounded f (sum f true a false b c) p n c
unfolding sum
mixed' f a b c p n P N = go (ltb a b) (ltb b a) refl refl
  where
    go
        : (z y : Bool) → ltb a b ≡ z → ltb b a ≡ y
        → Rounded f (cond z (round f false (b - a) c) (round f y (a - b) c)) p n c
    go true y e g = let l = ltb-true a b e in record { sign = false; size = b - a; apart = omega arith; is = refl }
    go false true e g = let l = ltb-true b a g in record { sign = true; size = a - b; apart = omega arith; is = refl }
    go false false e g =
        let l = ltb-false a b e in
        let k = ltb-false b a g in
        record { sign = false; size = a - b; apart = omega arith; is = refl }

pub add_rounded
    : (f : Format) (x y : Float) → T (finite x) → T (finite y)
    → Rounded f (add f x y) (credit x * den y + credit y * den x) (debit x * den y + debit y * den x) (den x * den y)
unfolding add
add_rounded f nan y p q = absurd p
add_rounded f (inf s) y p q = absurd p
add_rounded f (fin s m e) nan p q = absurd q
add_rounded f (fin s m e) (inf t) p q = absurd q
add_rounded f (fin false m e) (fin false n d) p q =
    record { sign = false; size = m * up e * down d + n * up d * down e; apart = omega arith; is = refl }
add_rounded f (fin false m e) (fin true n d) p q =
    mixed f (m * up e * down d) (n * up d * down e) (down e * down d) _ _ (omega arith) (omega arith)
add_rounded f (fin true m e) (fin false n d) p q =
    mixed' f (m * up e * down d) (n * up d * down e) (down e * down d) _ _ (omega arith) (omega arith)
add_rounded f (fin true m e) (fin true n d) p q =
    record { sign = true; size = m * up e * down d + n * up d * down e; apart = omega arith; is = refl }

pub mul_rounded
    : (f : Format) (x y : Float) → T (finite x) → T (finite y)
    → Rounded f (mul f x y) (credit x * credit y + debit x * debit y) (credit x * debit y + debit x * credit y)
    (den x * den y)
unfolding mul
mul_rounded f nan y p q = absurd p
mul_rounded f (inf s) y p q = absurd p
mul_rounded f (fin s m e) nan p q = absurd q
mul_rounded f (fin s m e) (inf t) p q = absurd q
mul_rounded f (fin false m e) (fin false n d) p q =
    record { sign = false; size = m * up e * (n * up d); apart = omega arith; is = refl }
mul_rounded f (fin false m e) (fin true n d) p q =
    record { sign = true; size = m * up e * (n * up d); apart = omega arith; is = refl }
mul_rounded f (fin true m e) (fin false n d) p q =
    record { sign = true; size = m * up e * (n * up d); apart = omega arith; is = refl }
mul_rounded f (fin true m e) (fin true n d) p q =
    record { sign = false; size = m * up e * (n * up d); apart = omega arith; is = refl }

-- ---- what is rounded is a number
plus_number : (f : Format) (a b : ℕ) → 0 < b → T (number (round f false a b))
plus_number f a b B = le_left (round f false a b) (round f false a b) (round_mono f a b a b B B (le_of_eq refl))

round_number : (f : Format) (s : Bool) (a b : ℕ) → 0 < b → T (number (round f s a b))
round_number f false a b B = plus_number f a b B
round_number f true a b B = rw (round_neg f false a b) (neg_number (round f false a b) (plus_number f a b B))

rounded_number : (f : Format) (r : Float) (p n c : ℕ) → 0 < c → Rounded f r p n c → T (number r)
rounded_number f r p n c C a = rw a.is (round_number f a.sign a.size c C)

den_den : (x y : Float) → 0 < den x * den y
den_den x y = mul-pos (den_pos x) (den_pos y)

finite_add_number : (f : Format) (x y : Float) → T (finite x) → T (finite y) → T (number (add f x y))
finite_add_number f x y p q = rounded_number f (add f x y) _ _ (den x * den y) (den_den x y) (add_rounded f x y p q)

pub finite_mul_number : (f : Format) (x y : Float) → T (finite x) → T (finite y) → T (number (mul f x y))
finite_mul_number f x y p q = rounded_number f (mul f x y) _ _ (den x * den y) (den_den x y) (mul_rounded f x y p q)

-- ---- sums
sums
    : (a a' c b b' d k k' l m m' n : ℕ) → a * l + k' * c ≤ k * c + a' * l → b * n + m' * d ≤ m * d + b' * n
    → (a * d + b * c) * (l * n) + (k' * n + m' * l) * (c * d) ≤ (k * n + m * l) * (c * d) + (a' * d + b' * c) *
    (l * n)
sums a a' c b b' d k k' l m m' n h g =
    let p = simp (add-mul, mul_assoc, mul_comm, mul_left_comm) at (mul-le-mul_right (d * n) h) in
    let q = simp (add-mul, mul_assoc, mul_comm, mul_left_comm) at (mul-le-mul_right (c * l) g) in
    simp (add-mul, mul_assoc, mul_comm, mul_left_comm) (omega (arith, p, q))

add_mono_finite
    : (f : Format) (x x' y y' : Float) → T (finite x) → T (finite x') → T (finite y) → T (finite y')
    → T (le x x') → T (le y y') → T (le (add f x y) (add f x' y'))
add_mono_finite f x x' y y' p p' q q' h k =
    rounded_mono f (add f x y) (add f x' y') _ _ (den x * den y) _ _ (den x' * den y') (den_den x y) (den_den x' y')
    (add_rounded f x y p q) (add_rounded f x' y' p' q')
    (sums (credit x) (debit x) (den x) (credit y) (debit y) (den y) (credit x') (debit x') (den x') (credit y')
    (debit y') (den y') (le→at_most x x' p p' h) (le→at_most y y' q q' k))

pub add_inf_left : (f : Format) (s : Bool) (y : Float) → T (number (add f (inf s) y)) → add f (inf s) y ≡ inf s
unfolding add
add_inf_left f s nan h = absurd h
add_inf_left f true (inf true) h = refl
add_inf_left f true (inf false) h = absurd h
add_inf_left f false (inf true) h = absurd h
add_inf_left f false (inf false) h = refl
add_inf_left f s (fin t n d) h = refl

pub add_inf_right : (f : Format) (s : Bool) (x : Float) → T (number (add f x (inf s))) → add f x (inf s) ≡ inf s
unfolding add
add_inf_right f s nan h = absurd h
add_inf_right f true (inf true) h = refl
add_inf_right f true (inf false) h = absurd h
add_inf_right f false (inf true) h = absurd h
add_inf_right f false (inf false) h = refl
add_inf_right f s (fin t n d) h = refl

-- a sum grows with each of its terms
pub add_mono
    : (f : Format) (x x' y y' : Float) → T (le x x') → T (le y y') → T (number (add f x y))
    → T (number (add f x' y')) → T (le (add f x y) (add f x' y'))
add_mono f nan x' y y' h k p q = absurd (le_left nan x' h)
add_mono f (inf true) x' y y' h k p q = rw (add_inf_left f true y p) (bottom_le (add f x' y') q)
add_mono f (inf false) x' y y' h k p q = full (subst (λ (u : Float). T (number (add f u y'))) (top_le x' h) q)
  where
    full : T (number (add f (inf false) y')) → T (le (add f (inf false) y) (add f x' y'))
    full q = rw (top_le x' h, add_inf_left f false y' q) (le_top (add f (inf false) y) p)
add_mono f (fin s m e) x' nan y' h k p q = absurd (le_left nan y' k)
add_mono f (fin s m e) x' (inf true) y' h k p q = rw (add_inf_right f true (fin s m e) p) (bottom_le (add f x' y') q)
add_mono f (fin s m e) x' (inf false) y' h k p q =
    full (subst (λ (u : Float). T (number (add f x' u))) (top_le y' k) q)
  where
    full : T (number (add f x' (inf false))) → T (le (add f (fin s m e) (inf false)) (add f x' y'))
    full q = rw (top_le y' k, add_inf_right f false x' q) (le_top (add f (fin s m e) (inf false)) p)
add_mono f (fin s m e) nan (fin t n d) y' h k p q = absurd (le_right (fin s m e) nan h)
add_mono f (fin s m e) (inf true) (fin t n d) y' h k p q = absurd (unfold le in h)
add_mono f (fin s m e) (inf false) (fin t n d) y' h k p q =
    rw (add_inf_left f false y' q) (le_top (add f (fin s m e) (fin t n d)) p)
add_mono f (fin s m e) (fin s' m' e') (fin t n d) nan h k p q = absurd (le_right (fin t n d) nan k)
add_mono f (fin s m e) (fin s' m' e') (fin t n d) (inf true) h k p q = absurd (unfold le in k)
add_mono f (fin s m e) (fin s' m' e') (fin t n d) (inf false) h k p q =
    rw (add_inf_right f false (fin s' m' e') q) (le_top (add f (fin s m e) (fin t n d)) p)
add_mono f (fin s m e) (fin s' m' e') (fin t n d) (fin t' n' d') h k p q =
    add_mono_finite f (fin s m e) (fin s' m' e') (fin t n d) (fin t' n' d') tt tt tt tt h k

-- a difference grows with its first term, and shrinks as its second grows
pub sub_mono
    : (f : Format) (x x' y y' : Float) → T (le x x') → T (le y' y) → T (number (sub f x y)) → T (number (sub f x' y'))
    → T (le (sub f x y) (sub f x' y'))
unfolding sub
sub_mono f x x' y y' h k p q = add_mono f x x' (neg y) (neg y') h (neg_le y' y k) p q

-- ---- where a sum or a difference is a number
pub add_number : (f : Format) (x y : Float) → T (number x) → T (finite y) → T (number (add f x y))
add_number f nan y p q = absurd p
add_number f (inf s) nan p q = absurd q
add_number f (inf s) (inf t) p q = absurd q
add_number f (inf s) (fin t n d) p q = unfold add in tt
add_number f (fin s m e) y p q = finite_add_number f (fin s m e) y tt q

pub add_number' : (f : Format) (x y : Float) → T (finite x) → T (number y) → T (number (add f x y))
add_number' f x nan p q = absurd q
add_number' f nan (inf t) p q = absurd p
add_number' f (inf s) (inf t) p q = absurd p
add_number' f (fin s m e) (inf t) p q = unfold add in tt
add_number' f x (fin t n d) p q = finite_add_number f x (fin t n d) p tt

pub neg_finite : (x : Float) → T (finite x) → T (finite (neg x))
unfolding neg
neg_finite nan h = h
neg_finite (inf s) h = h
neg_finite (fin s m e) h = tt

pub sub_number : (f : Format) (x y : Float) → T (number x) → T (finite y) → T (number (sub f x y))
unfolding sub
sub_number f x y p q = add_number f x (neg y) p (neg_finite y q)

pub sub_number' : (f : Format) (x y : Float) → T (finite x) → T (number y) → T (number (sub f x y))
unfolding sub
sub_number' f x y p q = add_number' f x (neg y) p (neg_number y q)

-- what a number is the sum of, or the difference, is one too
pub sum_numbers : (f : Format) (x y : Float) → T (number (add f x y)) → T (number x) × T (number y)
unfolding add
sum_numbers f nan y h = absurd h
sum_numbers f (inf s) nan h = absurd h
sum_numbers f (inf s) (inf t) h = (tt, tt)
sum_numbers f (inf s) (fin t n d) h = (tt, tt)
sum_numbers f (fin s m e) nan h = absurd h
sum_numbers f (fin s m e) (inf t) h = (tt, tt)
sum_numbers f (fin s m e) (fin t n d) h = (tt, tt)

pub less_numbers : (f : Format) (x y : Float) → T (number (sub f x y)) → T (number x) × T (number y)
unfolding sub
less_numbers f x y h = ((sum_numbers f x (neg y) h).0, back y (sum_numbers f x (neg y) h).1)
  where
    back : (y : Float) → T (number (neg y)) → T (number y)
    back nan k = unfold neg in k
    back (inf s) k = tt
    back (fin s m e) k = tt

-- a difference grows with its first term, and stays a number where the infinity is not taken from itself
pub less_grows
    : (f : Format) (x x' r : Float) → T (le x x') → T (number (sub f x r))
    → (T (le (inf false) x') → T (number (sub f (inf false) r))) → T (le (sub f x r) (sub f x' r))
less_grows f x x' r h k top =
    let n = (less_numbers f x r k).1 in
    sub_mono f x x' r r h (le_refl r n) k (go x' h top)
  where
    go
        : (x' : Float) → T (le x x') → (T (le (inf false) x') → T (number (sub f (inf false) r)))
        → T (number (sub f x' r))
    go nan h top = absurd (le_right x nan h)
    go (inf true) h top = subst (λ (u : Float). T (number (sub f u r))) (le_bottom x h) k
    go (inf false) h top = top (le_top (inf false) tt)
    go (fin s m e) h top = sub_number' f (fin s m e) r tt (less_numbers f x r k).1

-- ---- what is not negative: -0 is not
pub zero_is : f0 ≡ zero_f
unfolding of_bits
zero_is = refl

pub zero_zero : Zero zero_f
zero_zero = record { fin = tt; gain = refl; loss = refl }

pub no_debit : (x : Float) → T (finite x) → T (le zero_f x) → debit x ≡ 0
no_debit nan p h = absurd p
no_debit (inf s) p h = absurd p
no_debit (fin false m e) p h = refl
no_debit (fin true m e) p h = let k = le→at_most zero_f (fin true m e) tt tt h in omega (arith, k)

-- the sum of two such is one
pub add_plus_number : (f : Format) (x y : Float) → T (le zero_f x) → T (le zero_f y) → T (number (add f x y))
add_plus_number f nan y h k = absurd (le_right zero_f nan h)
add_plus_number f (inf true) y h k = absurd (unfold le in h)
add_plus_number f (inf false) nan h k = absurd (le_right zero_f nan k)
add_plus_number f (inf false) (inf true) h k = absurd (unfold le in k)
add_plus_number f (inf false) (inf false) h k = unfold add in tt
add_plus_number f (inf false) (fin t n d) h k = unfold add in tt
add_plus_number f (fin s m e) y h k = add_number' f (fin s m e) y tt (le_right zero_f y k)

zero_sum : (f : Format) → Zero (add f zero_f zero_f)
unfolding add
zero_sum f = round_zero f false 1 (lit< tt)

pub add_plus : (f : Format) (x y : Float) → T (le zero_f x) → T (le zero_f y) → T (le zero_f (add f x y))
add_plus f x y h k =
    le_trans zero_f (add f zero_f zero_f) (add f x y) (zero_le_zero zero_f (add f zero_f zero_f) zero_zero (zero_sum f))
    (add_mono f zero_f x zero_f y h k (finite_add_number f zero_f zero_f tt tt) (add_plus_number f x y h k))

-- ---- products of what is not negative
products
    : (a a' c b b' d k k' l m m' n : ℕ) → a' ≡ 0 → b' ≡ 0 → k' ≡ 0 → m' ≡ 0
    → a * l + k' * c ≤ k * c + a' * l → b * n + m' * d ≤ m * d + b' * n
    → (a * b + a' * b') * (l * n) + (k * m' + k' * m) * (c * d) ≤ (k * m + k' * m') * (c * d) +
    (a * b' + a' * b) * (l * n)
products a a' c b b' d k k' l m m' n ea eb ek em h g =
    rw (ea, eb, ek, em) (short (rw (ea, ek) at h) (rw (eb, em) at g))
  where
    short
        : a * l + 0 * c ≤ k * c + 0 * l → b * n + 0 * d ≤ m * d + 0 * n
        → (a * b + 0 * 0) * (l * n) + (k * 0 + 0 * m) * (c * d) ≤ (k * m + 0 * 0) * (c * d) + (a * 0 + 0 * b) *
        (l * n)
    short h g =
        let h₁ : a * l ≤ k * c = omega arith in
        let g₁ : b * n ≤ m * d = omega arith in
        let p = mul-le-mul h₁ g₁ in
        simp (add-zero, mul-zero, zero-mul, mul_assoc, mul_comm, mul_left_comm)
        (simp (mul_assoc, mul_comm, mul_left_comm) at p)

mul_mono_finite
    : (f : Format) (x x' y y' : Float) → T (finite x) → T (finite x') → T (finite y) → T (finite y') → T (le zero_f x)
    → T (le x x') → T (le zero_f y) → T (le y y') → T (le (mul f x y) (mul f x' y'))
mul_mono_finite f x x' y y' p p' q q' hx h hy k =
    rounded_mono f (mul f x y) (mul f x' y') _ _ (den x * den y) _ _ (den x' * den y') (den_den x y) (den_den x' y')
    (mul_rounded f x y p q) (mul_rounded f x' y' p' q')
    (products (credit x) (debit x) (den x) (credit y) (debit y) (den y) (credit x') (debit x') (den x') (credit y')
    (debit y') (den y') (no_debit x p hx) (no_debit y q hy)
    (no_debit x' p' (le_trans zero_f x x' hx h)) (no_debit y' q' (le_trans zero_f y y' hy k)) (le→at_most x x' p p' h)
    (le→at_most y y' q q' k))

unlike_swap : (s t : Bool) → unlike s t ≡ unlike t s
unlike_swap true true = refl
unlike_swap true false = refl
unlike_swap false true = refl
unlike_swap false false = refl

pub mul_swap : (f : Format) (x y : Float) → mul f x y ≡ mul f y x
unfolding mul
mul_swap f nan nan = refl
mul_swap f nan (inf t) = refl
mul_swap f nan (fin t n d) = refl
mul_swap f (inf s) nan = refl
mul_swap f (inf s) (inf t) = ap inf (unlike_swap s t)
mul_swap f (inf s) (fin t n d) = ap (λ (u : Bool). cond (eqb n 0) nan (inf u)) (unlike_swap s t)
mul_swap f (fin s m e) nan = refl
mul_swap f (fin s m e) (inf t) = ap (λ (u : Bool). cond (eqb m 0) nan (inf u)) (unlike_swap s t)
mul_swap f (fin s m e) (fin t n d) =
    ap (λ (u : Bool). round f u (m * up e * (n * up d)) (down e * down d)) (unlike_swap s t) ∙ ap
    (λ (u : ℕ). round f (unlike t s) u (down e * down d)) (mul_comm (m * up e) (n * up d)) ∙ ap
    (λ (u : ℕ). round f (unlike t s) (n * up d * (m * up e)) u) (mul_comm (down e) (down d))

no_digits : (m u : ℕ) → 0 < u → m * u ≡ 0 → m ≡ 0
no_digits m u U h = no_size m u 0 U h

-- an infinity times what is not negative
mul_top_left
    : (f : Format) (y : Float) → T (le zero_f y) → T (number (mul f (inf false) y)) → mul f (inf false) y ≡ inf false
unfolding mul
mul_top_left f nan h k = absurd k
mul_top_left f (inf true) h k = absurd (unfold le in h)
mul_top_left f (inf false) h k = refl
mul_top_left f (fin false n d) h k = go (eqb n 0) k
  where
    go : (b : Bool) → T (number (cond b nan (inf false))) → cond b nan (inf false) ≡ inf false
    go true k = absurd k
    go false k = refl
mul_top_left f (fin true n d) h k =
    go (eqb n 0) (eq→eqb (no_digits n (up d) (up_pos d) (no_debit (fin true n d) tt h))) k
  where
    go : (b : Bool) → T b → T (number (cond b nan (inf true))) → cond b nan (inf true) ≡ inf false
    go true t k = absurd k
    go false t k = absurd t

mul_top_right
    : (f : Format) (x : Float) → T (le zero_f x) → T (number (mul f x (inf false))) → mul f x (inf false) ≡ inf false
mul_top_right f x h k =
    mul_swap f x (inf false) ∙ mul_top_left f x h (subst (λ (u : Float). T (number u)) (mul_swap f x (inf false)) k)

-- a product of what is not negative grows with each factor
pub mul_mono
    : (f : Format) (x x' y y' : Float) → T (le zero_f x) → T (le x x') → T (le zero_f y) → T (le y y') → T
    (number (mul f x y)) → T (number (mul f x' y')) → T (le (mul f x y) (mul f x' y'))
mul_mono f nan x' y y' hx h hy k p q = absurd (le_left nan x' h)
mul_mono f (inf true) x' y y' hx h hy k p q = absurd (unfold le in hx)
mul_mono f (inf false) x' y y' hx h hy k p q = full (subst (λ (u : Float). T (number (mul f u y'))) (top_le x' h) q)
  where
    full : T (number (mul f (inf false) y')) → T (le (mul f (inf false) y) (mul f x' y'))
    full q = rw (top_le x' h, mul_top_left f y' (le_trans zero_f y y' hy k) q) (le_top (mul f (inf false) y) p)
mul_mono f (fin s m e) x' nan y' hx h hy k p q = absurd (le_left nan y' k)
mul_mono f (fin s m e) x' (inf true) y' hx h hy k p q = absurd (unfold le in hy)
mul_mono f (fin s m e) x' (inf false) y' hx h hy k p q =
    full (subst (λ (u : Float). T (number (mul f x' u))) (top_le y' k) q)
  where
    full : T (number (mul f x' (inf false))) → T (le (mul f (fin s m e) (inf false)) (mul f x' y'))
    full q =
        rw (top_le y' k, mul_top_right f x' (le_trans zero_f (fin s m e) x' hx h) q)
        (le_top (mul f (fin s m e) (inf false)) p)
mul_mono f (fin s m e) nan (fin t n d) y' hx h hy k p q = absurd (le_right (fin s m e) nan h)
mul_mono f (fin s m e) (inf true) (fin t n d) y' hx h hy k p q = absurd (unfold le in h)
mul_mono f (fin s m e) (inf false) (fin t n d) y' hx h hy k p q =
    rw (mul_top_left f y' (le_trans zero_f (fin t n d) y' hy k) q) (le_top (mul f (fin s m e) (fin t n d)) p)
mul_mono f (fin s m e) (fin s' m' e') (fin t n d) nan hx h hy k p q = absurd (le_right (fin t n d) nan k)
mul_mono f (fin s m e) (fin s' m' e') (fin t n d) (inf true) hx h hy k p q = absurd (unfold le in k)
mul_mono f (fin s m e) (fin s' m' e') (fin t n d) (inf false) hx h hy k p q =
    rw (mul_top_right f (fin s' m' e') (le_trans zero_f (fin s m e) (fin s' m' e') hx h) q)
    (le_top (mul f (fin s m e) (fin t n d)) p)
mul_mono f (fin s m e) (fin s' m' e') (fin t n d) (fin t' n' d') hx h hy k p q =
    mul_mono_finite f (fin s m e) (fin s' m' e') (fin t n d) (fin t' n' d') tt tt tt tt hx h hy k

zero_product : (f : Format) → Zero (mul f zero_f zero_f)
unfolding mul
zero_product f = round_zero f false 1 (lit< tt)

pub mul_plus
    : (f : Format) (x y : Float) → T (le zero_f x) → T (le zero_f y) → T (number (mul f x y)) → T (le zero_f (mul f x y))
mul_plus f x y h k p =
    le_trans zero_f (mul f zero_f zero_f) (mul f x y) (zero_le_zero zero_f (mul f zero_f zero_f) zero_zero (zero_product f))
    (mul_mono f zero_f x zero_f y (le_refl zero_f tt) h (le_refl zero_f tt) k (finite_mul_number f zero_f zero_f tt tt) p)

-- ---- squares
pub square_number : (f : Format) (x : Float) → T (number x) → T (number (mul f x x))
square_number f nan h = absurd h
square_number f (inf s) h = unfold mul in tt
square_number f (fin s m e) h = finite_mul_number f (fin s m e) (fin s m e) tt tt

pub square_plus : (f : Format) (x : Float) → T (le zero_f x) → T (le zero_f (mul f x x))
square_plus f x h = mul_plus f x x h h (square_number f x (le_right zero_f x h))

pub square_mono : (f : Format) (x y : Float) → T (le zero_f x) → T (le x y) → T (le (mul f x x) (mul f y y))
square_mono f x y h k =
    mul_mono f x y x y h k h k (square_number f x (le_left x y k)) (square_number f y (le_right x y k))

pub square_neg : (f : Format) (x : Float) → mul f (neg x) (neg x) ≡ mul f x x
unfolding mul neg
square_neg f nan = refl
square_neg f (inf true) = refl
square_neg f (inf false) = refl
square_neg f (fin true m e) = refl
square_neg f (fin false m e) = refl

-- a square is not negative
pub square_up : (f : Format) (x : Float) → T (number x) → T (le zero_f (mul f x x))
square_up f nan h = absurd h
square_up f (inf true) h = unfold mul in (le_top zero_f tt)
square_up f (inf false) h = unfold mul in (le_top zero_f tt)
square_up f (fin false m e) h = square_plus f (fin false m e) (at_most→le zero_f (fin false m e) tt tt (omega arith))
square_up f (fin true m e) h = subst (λ (u : Float). T (le zero_f u)) (square_neg f (fin true m e)) turned
  where
    turned : T (le zero_f (mul f (neg (fin true m e)) (neg (fin true m e))))
    turned = unfold neg in (square_plus f (fin false m e) (at_most→le zero_f (fin false m e) tt tt (omega arith)))

pub square_numbers : (f : Format) (x : Float) → T (number (mul f x x)) → T (number x)
square_numbers f nan h = unfold mul in h
square_numbers f (inf s) h = tt
square_numbers f (fin s m e) h = tt

-- ---- x - y is -(y - x), by value: a zero's sign may differ
rounded_neg : (f : Format) (r : Float) (p n c : ℕ) → Rounded f r p n c → Rounded f (neg r) n p c
rounded_neg f r p n c a =
    record {
      sign = not a.sign;
      size = a.size;
      apart = turned a.sign a.size a.apart;
      is = ap neg a.is
          ∙ sym (round_neg f a.sign a.size c);
    }
  where
    turned : (s : Bool) (k : ℕ) → Apart s k p n → Apart (not s) k n p
    turned true k h = h
    turned false k h = h

credit_neg : (x : Float) → credit (neg x) ≡ debit x
unfolding neg
credit_neg nan = refl
credit_neg (inf s) = refl
credit_neg (fin true m e) = refl
credit_neg (fin false m e) = refl

debit_neg : (x : Float) → debit (neg x) ≡ credit x
unfolding neg
debit_neg nan = refl
debit_neg (inf s) = refl
debit_neg (fin true m e) = refl
debit_neg (fin false m e) = refl

den_neg : (x : Float) → den (neg x) ≡ den x
unfolding neg
den_neg nan = refl
den_neg (inf s) = refl
den_neg (fin s m e) = refl

pub sub_rounded
    : (f : Format) (x y : Float) → T (finite x) → T (finite y) → Rounded f (sub f x y)
    (credit x * den y + debit y * den x) (debit x * den y + credit y * den x) (den x * den y)
unfolding sub
sub_rounded f x y p q = rw (credit_neg y, debit_neg y, den_neg y) at (add_rounded f x (neg y) p (neg_finite y q))

pub sub_swap : (f : Format) (x y : Float) → T (number x) → T (finite y) → T (le (sub f x y) (neg (sub f y x)))
sub_swap f nan y p q = absurd p
sub_swap f (inf s) nan p q = absurd q
sub_swap f (inf s) (inf t) p q = absurd q
sub_swap f (inf true) (fin t n d) p q = unfold sub neg add le in tt
sub_swap f (inf false) (fin t n d) p q = unfold sub neg add le in tt
sub_swap f (fin s m e) y p q =
    let x = fin s m e in
    rounded_mono f (sub f x y) (neg (sub f y x)) (credit x * den y + debit y * den x)
    (debit x * den y + credit y * den x) (den x * den y) (debit y * den x + credit x * den y)
    (credit y * den x + debit x * den y) (den y * den x) (den_den x y) (den_den y x) (sub_rounded f x y tt q)
    (rounded_neg f (sub f y x) _ _ (den y * den x) (sub_rounded f y x q tt))
    (turned (credit x * den y) (debit y * den x) (debit x * den y) (credit y * den x) (den x) (den y))
  where
    turned : (a b a' b' c d : ℕ) → (a + b) * (d * c) + (b' + a') * (c * d) ≤ (b + a) * (c * d) + (a' + b') * (d * c)
    turned a b a' b' c d = simp (add-mul, mul_comm) (omega arith)

-- ---- quotients by what is above zero
quotients
    : (a a' c k k' l u w : ℕ) → a * l + k' * c ≤ k * c + a' * l
    → a * u * (w * l) + k' * u * (w * c) ≤ k * u * (w * c) + a' * u * (w * l)
quotients a a' c k k' l u w h =
    let p = simp (add-mul, mul_assoc, mul_comm) at (mul-le-mul_right (u * w) h) in
    simp (mul_assoc, mul_comm, mul_left_comm) p

div_digits
    : (f : Format) (s : Bool) (m : ℕ) (e : ℤ) (n : ℕ) (d : ℤ)
    → div f (fin s m e) (fin false (suc n) d) ≡ round f (unlike s false) (m * up e * down d) (suc n * up d * down e)
unfolding div
div_digits f s m e n d = go (eqb (suc n) 0) (eqb-suc-zero n)
  where
    r : Float
    r = round f (unlike s false) (m * up e * down d) (suc n * up d * down e)

    go : (b : Bool) → b ≡ false → cond b (cond (eqb m 0) nan (inf (unlike s false))) r ≡ r
    go true e = absurd (true≢false e)
    go false e = refl

div_rounded
    : (f : Format) (x : Float) (n : ℕ) (d : ℤ) → T (finite x)
    → Rounded f (div f x (fin false (suc n) d)) (credit x * down d) (debit x * down d) (suc n * up d * den x)
div_rounded f nan n d p = absurd p
div_rounded f (inf s) n d p = absurd p
div_rounded f (fin false m e) n d p =
    record { sign = false; size = m * up e * down d; apart = omega arith; is = div_digits f false m e n d }
div_rounded f (fin true m e) n d p =
    record { sign = true; size = m * up e * down d; apart = omega arith; is = div_digits f true m e n d }

over_pos : (n : ℕ) (d : ℤ) (x : Float) → 0 < suc n * up d * den x
over_pos n d x = mul-pos (mul-pos (omega arith) (up_pos d)) (den_pos x)

-- none is above zero with its sign set, nor with no digits
above_minus : (n : ℕ) (d : ℤ) → T (lt zero_f (fin true n d)) → ⊥
above_minus n d h = lt_not_le zero_f (fin true n d) h (at_most→le (fin true n d) zero_f tt tt (omega arith))

above_none : (d : ℤ) → T (lt zero_f (fin false 0 d)) → ⊥
above_none d h = lt_not_le zero_f (fin false 0 d) h (at_most→le (fin false 0 d) zero_f tt tt (omega arith))

pub div_number : (f : Format) (x d : Float) → T (finite x) → T (lt zero_f d) → T (number (div f x d))
div_number f x nan p h = absurd (unfold lt in h)
div_number f x (inf true) p h = absurd (unfold lt in h)
div_number f nan (inf false) p h = absurd p
div_number f (inf s) (inf false) p h = absurd p
div_number f (fin s m e) (inf false) p h = unfold div in tt
div_number f x (fin true n d) p h = absurd (above_minus n d h)
div_number f x (fin false zero d) p h = absurd (above_none d h)
div_number f x (fin false (suc n) d) p h =
    rounded_number f (div f x (fin false (suc n) d)) _ _ (suc n * up d * den x) (over_pos n d x) (div_rounded f x n d p)

-- a quotient by what is above zero grows with what is divided
pub div_mono
    : (f : Format) (x y d : Float) → T (le x y) → T (lt zero_f d) → T (number (div f x d))
    → T (number (div f y d)) → T (le (div f x d) (div f y d))
unfolding div
div_mono f x y nan h k p q = absurd (unfold lt in k)
div_mono f x y (inf true) h k p q = absurd (unfold lt in k)
div_mono f nan y (inf false) h k p q = absurd p
div_mono f (inf s) y (inf false) h k p q = absurd p
div_mono f (fin s m e) nan (inf false) h k p q = absurd q
div_mono f (fin s m e) (inf t) (inf false) h k p q = absurd q
div_mono f (fin s m e) (fin t n c) (inf false) h k p q = zero_le_zero _ _ (none s) (none t)
  where
    none : (s : Bool) → Zero (fin (unlike s false) 0 (pos 0))
    none true = record { fin = tt; gain = refl; loss = refl }
    none false = record { fin = tt; gain = refl; loss = refl }
div_mono f x y (fin true n d) h k p q = absurd (above_minus n d k)
div_mono f x y (fin false zero d) h k p q = absurd (above_none d k)
div_mono f nan y (fin false (suc n) d) h k p q = absurd p
div_mono f (inf true) y (fin false (suc n) d) h k p q = bottom_le (div f y (fin false (suc n) d)) q
div_mono f (inf false) y (fin false (suc n) d) h k p q = rw (top_le y h) (le_top (inf false) tt)
div_mono f (fin s m e) nan (fin false (suc n) d) h k p q = absurd q
div_mono f (fin s m e) (inf true) (fin false (suc n) d) h k p q = absurd (unfold le in h)
div_mono f (fin s m e) (inf false) (fin false (suc n) d) h k p q = le_top (div f (fin s m e) (fin false (suc n) d)) p
div_mono f (fin s m e) (fin t i c) (fin false (suc n) d) h k p q =
    let x = fin s m e in
    let y = fin t i c in
    rounded_mono f (div f x (fin false (suc n) d)) (div f y (fin false (suc n) d)) _ _ (suc n * up d * den x) _ _
    (suc n * up d * den y) (over_pos n d x) (over_pos n d y) (div_rounded f x n d tt) (div_rounded f y n d tt)
    (quotients (credit x) (debit x) (den x) (credit y) (debit y) (den y) (down d) (suc n * up d)
    (le→at_most x y tt tt h))
