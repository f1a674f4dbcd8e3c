-- Two roots differ where what they are of is apart by a millionth: so which is less is told with no root. Assumes
-- nothing.
use Rattle.std.proofs.Common.{◌≡◌, ℕ, zero, suc, ◌+◌, ◌-◌, ◌*◌, ◌/◌, ◌%◌, ◌^◌, ◌<◌, ◌≤◌, false, T, sym, refl, ap, ◌∙◌, subst, inl, inr, le_trans, le_of_eq, lt_of_le_of_lt, le_of_lt, mul-le-mul_right, mul_assoc, mul_comm, eq-zero-or-pos, mul-le-mul, mul-one, mul_right_comm, le_of_mul-le-mul_right, arith, lit<, lit≤, pow_pos, pow_mono}
use lib.Ieee.{Float, binary32, binary64, mul, of_bits, to_bits, le}
use lib.Ieee.Exact.{HasValue}
use Rattle.root.specs.Root.{units, plain, fields, val, mid, root_bits, root_of}
use Rattle.root.specs.Inside.Bar.{apart_by}
use Rattle.root.proofs.Patterns.{gap, val_suc, val_lt, Reached, root_found, reached_iff}
use Rattle.root.proofs.Laws.{plain_small, plain_units, plain_under, root_units}
use Rattle.root.proofs.Order.{plain_value, le→fractions}
use Rattle.root.proofs.BarLaw.{exact, mul_value}

-- ---- a midpoint and the next, at a pattern that is normal
-- of sums and products alone: b is nearly twice v, and a is no more than b and two gaps
squares : (a b u : ℕ) → a ≤ b + 2 * u → 16777215 * u ≤ b → a * a * 1048576 ≤ b * b * 1048577
squares a b u h k =
    let p : a * a ≤ (b + 2 * u) * (b + 2 * u) = mul-le-mul h h in
    let l : u ≤ b = omega arith in
    let q : u * u ≤ b * u = mul-le-mul_right u l in
    let r : 16777215 * (b * u) ≤ b * b = le_trans (le_of_eq (over b u)) (mul-le-mul_right b k) in
    let s : (b + 2 * u) * (b + 2 * u) ≡ b * b + 4 * (b * u) + 4 * (u * u) = expand b u in
    last (a * a) (b * b) (b * u) (u * u) (le_trans p (le_of_eq s)) q r
  where
    over : (b u : ℕ) → 16777215 * (b * u) ≡ 16777215 * u * b
    over b u = ap (λ (z : ℕ). 16777215 * z) (mul_comm b u) ∙ sym (mul_assoc 16777215 u b)

    expand : (b u : ℕ) → (b + 2 * u) * (b + 2 * u) ≡ b * b + 4 * (b * u) + 4 * (u * u)
    expand b u = omega (arith, mul_comm u b)

    last : (a b c d : ℕ) → a ≤ b + 4 * c + 4 * d → d ≤ c → 16777215 * c ≤ b → a * 1048576 ≤ b * 1048577
    last a b c d h k l = omega arith

-- a normal pattern has 2 ^ 23 gaps or more
many : (p : ℕ) → 8388608 ≤ p → 8388608 * gap p ≤ val p
many p h = go (p / 8388608) (p % 8388608) (some p h)
  where
    some : (p : ℕ) → 8388608 ≤ p → 0 < p / 8388608
    some p h = omega arith

    go : (e t : ℕ) → 0 < e → 8388608 * 2 ^ (e - 1) ≤ fields e t
    go zero t l = absurd (none l)
      where
        none : 0 < 0 → ⊥
        none l = omega arith
    go (suc e) t l =
        subst (λ (z : ℕ). 8388608 * 2 ^ z ≤ (8388608 + t) * 2 ^ e) (one_less e) (mul-le-mul_right (2 ^ e) (more t))
      where
        one_less : (e : ℕ) → e ≡ suc e - 1
        one_less e = omega arith

        more : (t : ℕ) → 8388608 ≤ 8388608 + t
        more t = omega arith

gap_grows : (p : ℕ) → gap p ≤ gap (suc p)
gap_grows p = pow_mono (less p)
  where
    less : (p : ℕ) → p / 8388608 - 1 ≤ suc p / 8388608 - 1
    less p = omega arith

step : (p : ℕ) → 8388608 ≤ p → mid (suc p) * mid (suc p) * 1048576 ≤ mid p * mid p * 1048577
step zero h = absurd (none h)
  where
    none : 8388608 ≤ 0 → ⊥
    none h = omega arith
step (suc o) h =
    let p = suc o in
    squares (mid (suc p)) (mid p) (gap p)
    (next (val o) (val p) (val (suc p)) (gap o) (gap p) (val_suc o) (val_suc p) (gap_grows o) (mid (suc p)) (mid p)
    (ap (λ (z : ℕ). val z + val (suc p)) (one_less p)) (ap (λ (z : ℕ). val z + val p) (one_less o)))
    (large (val o) (val p) (gap o) (gap p) (val_suc o) (gap_grows o) (many p h) (mid p)
    (ap (λ (z : ℕ). val z + val p) (one_less o)))
  where
    one_less : (p : ℕ) → suc p - 1 ≡ p
    one_less p = omega arith

    next : (x y z g k : ℕ) → y ≡ x + g → z ≡ y + k → g ≤ k → (m n : ℕ) → m ≡ y + z → n ≡ x + y → m ≤ n + 2 * k
    next x y z g k a b c m n d e = omega arith

    large : (x y g k : ℕ) → y ≡ x + g → g ≤ k → 8388608 * k ≤ y → (n : ℕ) → n ≡ x + y → 16777215 * k ≤ n
    large x y g k a b c n e = omega arith

-- ---- the roots of n and of m
-- what is at least one unit has a root that is normal
normal : (n : ℕ) → n < 2 ^ 277 → 0 < n → 8388608 ≤ root_bits n
normal n h k =
    (reached_iff n 8388608 h).1 (le_trans (lit≤ tt) (le_trans (le_of_eq (sym (one (2 ^ 151))))
    (mul-le-mul_right (2 ^ 151) k)))
  where
    one : (x : ℕ) → 1 * x ≡ x
    one x = omega arith

zero_root : root_bits 0 ≡ 0
unfolding root_bits
zero_root = refl

pub root_apart : (n m : ℕ) → m < 2 ^ 277 → n < m → n * 1048577 ≤ m * 1048576 → root_bits n < root_bits m
root_apart n m h l k =
    (reached_iff m (suc (root_bits n)) h).1 (elim (eq-zero-or-pos n) [ inl z ↦ none z | inr s ↦ some s ])
  where
    under : n < 2 ^ 277
    under = lt_of_le_of_lt (le_of_lt l) h

    none : n ≡ 0 → Reached m (suc (root_bits n))
    none z =
        subst (λ (p : ℕ). Reached m (suc p)) (sym (ap root_bits z ∙ zero_root))
        (le_trans (lit≤ tt) (le_trans (le_of_eq (sym (one (2 ^ 151)))) (mul-le-mul_right (2 ^ 151) (more n m l))))
      where
        one : (x : ℕ) → 1 * x ≡ x
        one x = omega arith

        more : (n m : ℕ) → n < m → 1 ≤ m
        more n m l = omega arith

    some : 0 < n → Reached m (suc (root_bits n))
    some s =
        let p = root_bits n in
        let a = step p (normal n under s) in
        let b : mid p * mid p * 1048577 ≤ n * 2 ^ 151 * 1048577 = mul-le-mul_right 1048577 (root_found n under).0 in
        let c : n * 2 ^ 151 * 1048577 ≤ m * 2 ^ 151 * 1048576 =
        le_trans (le_of_eq (mul_right_comm n (2 ^ 151) 1048577)) (le_trans (mul-le-mul_right (2 ^ 151) k)
        (le_of_eq (mul_right_comm m 1048576 (2 ^ 151)))) in
        le_of_mul-le-mul_right (le_trans a (le_trans b c)) (lit< tt)

-- ---- the same of floats: r is at least l and a millionth, worked out in f64, which holds it
by_value : HasValue apart_by false 1048577 1048576
unfolding of_bits
by_value = (refl, refl)

-- a pattern's units are some 24 digits and zeros
pub short : (p : ℕ) → p < 2139095040 → (o : ℕ) × (k : ℕ) × (val p ≡ o * 2 ^ k) × (o < 16777216) × (k ≤ 254)
short p h = go (p / 8388608) (p % 8388608) (digits p) (few p h)
  where
    digits : (p : ℕ) → p % 8388608 < 8388608
    digits p = omega arith

    few : (p : ℕ) → p < 2139095040 → p / 8388608 ≤ 254
    few p h = omega arith

    go : (e t : ℕ) → t < 8388608 → e ≤ 254 → (o : ℕ) × (k : ℕ) × (fields e t ≡ o * 2 ^ k) × (o < 16777216) × (k ≤ 254)
    go zero t l g = (t, 0, sym (mul-one t), omega arith, lit≤ tt)
    go (suc e) t l g = (8388608 + t, e, refl, omega arith, omega arith)

above_value : (l : Float) → T (plain l) → HasValue (mul binary64 l apart_by) false (units l * 1048577) (2 ^ 169)
above_value l q =
    let p = to_bits binary32 l in
    let s = short p (plain_small l q) in
    let e : units l * 1048577 ≡ s.0 * 1048577 * 2 ^ s.1 = ap (λ (z : ℕ). z * 1048577) (plain_units l q ∙ s.2)
    ∙ mul_right_comm s.0 (2 ^ s.1) 1048577 in
    subst (λ (x : Float). HasValue x false (units l * 1048577) (2 ^ 169))
    (sym (mul_value binary64 l apart_by (units l) 1048577 (2 ^ 149) 1048576 (pow_pos 149) (lit< tt)
    (plain_value l q) by_value))
    (exact (units l * 1048577) (s.0 * 1048577) s.1 169 e (small s.0 s.3) (le_trans s.4 (lit≤ tt))
    (lit≤ tt))
  where
    small : (o : ℕ) → o < 16777216 → o * 1048577 < 2 ^ 53
    small o h =
        let k : o * 1048577 ≤ 16777215 * 1048577 = mul-le-mul_right 1048577 (less o h) in lt_of_le_of_lt k (lit< tt)
      where
        less : (o : ℕ) → o < 16777216 → o ≤ 16777215
        less o h = omega arith

pub apart_law
    : (l r : Float) → T (plain l) → T (plain r) → units l < units r → T (le (mul binary64 l apart_by) r) → units
    (root_of l) < units (root_of r)
apart_law l r p q h k =
    let a : units l * 1048577 * 2 ^ 149 ≤ units r * 2 ^ 169 = le→fractions (mul binary64 l apart_by) r
    (units l * 1048577) (2 ^ 169) (units r) (2 ^ 149) (pow_pos 169) (pow_pos 149) (above_value l p)
    (plain_value r q) k in
    let b : units l * 1048577 ≤ units r * 1048576 = le_of_mul-le-mul_right
    (le_trans a (le_of_eq (sym (mul_assoc (units r) 1048576 (2 ^ 149))))) (pow_pos 149) in
    subst (λ (z : ℕ). z < units (root_of r)) (sym (root_units l p))
    (subst (λ (z : ℕ). val (root_bits (units l)) < z) (sym (root_units r q))
    (val_lt (root_apart (units l) (units r) (plain_under r q) h b)))
