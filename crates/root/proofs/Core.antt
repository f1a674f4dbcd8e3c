-- The arithmetic of `root_bits`: where n * 2 ^ 151 is N * 4 ^ j the root of n units is half the root of N, times 2 ^ j
-- units, so that half the root of N, rounded, gives its bits. Assumes nothing.
use Rattle.std.proofs.Common.{◌≡◌, ℕ, zero, suc, ◌+◌, ◌-◌, ◌*◌, ◌/◌, ◌%◌, ◌^◌, ◌<◌, ◌≤◌, sym, refl, ap, ◌∙◌, subst, inl, inr, le_trans, le_of_eq, le_refl, lt_of_lt_of_le, lt_of_le_of_lt, le_of_lt, add-le-add, mul-le-mul_right, mod-eq_of_lt, mul_assoc, mul-le-mul, eq-or-lt_of_le, mul-lt-mul_of_pos_right, zero-mul, mul-one, not-le_of_lt, arith, lit<, lit≤, leb→le, pow_pos, pow_mono, pow-add}
use native.Mathlib.Nat.{pow-succ'}
use native.Mathlib.Nat.{mul-mul-mul_comm}
use Rattle.root.specs.Root.{fields, val, mid, root_bits}
use Rattle.root.specs.Inside.Steps.{expo, digs, Scaled, Nearest}
use Rattle.root.proofs.Patterns.{gap, val_suc, val_mono, val_lt, Found, bits_unique, val_small}

-- ---- the bits j * 2 ^ 23 + a, for an a of 24 digits or 2 ^ 24, count a * 2 ^ j units
pub val_at : (j a : ℕ) → 8388608 ≤ a → a ≤ 16777216 → val (j * 8388608 + a) ≡ a * 2 ^ j
val_at j a h k = elim (eq-or-lt_of_le k) [ inl e ↦ top e | inr l ↦ inside l ]
  where
    inside : a < 16777216 → val (j * 8388608 + a) ≡ a * 2 ^ j
    inside l =
        let x : (j * 8388608 + a) / 8388608 ≡ suc j = omega arith in
        let y : (j * 8388608 + a) % 8388608 ≡ a - 8388608 = omega arith in
        let z : 8388608 + (a - 8388608) ≡ a = omega arith in
        rw (x, y) (ap (λ (w : ℕ). w * 2 ^ j) z)

    top : a ≡ 16777216 → val (j * 8388608 + a) ≡ a * 2 ^ j
    top e =
        let x : (j * 8388608 + a) / 8388608 ≡ suc (suc j) = omega arith in
        let y : (j * 8388608 + a) % 8388608 ≡ 0 = omega arith in
        rw (x, y) (ap (λ (w : ℕ). (8388608 + 0) * w) (pow-succ' 2 j) ∙ double (2 ^ j) a e)
      where
        double : (x a : ℕ) → a ≡ 16777216 → (8388608 + 0) * (2 * x) ≡ a * x
        double x a e = subst (λ (z : ℕ). (8388608 + 0) * (2 * x) ≡ z * x) (sym e) (omega arith)

gap_at : (j a : ℕ) → 8388608 ≤ a → 2 ^ j ≤ gap (j * 8388608 + a)
gap_at j a h = pow_mono (le j a h)
  where
    le : (j a : ℕ) → 8388608 ≤ a → j ≤ (j * 8388608 + a) / 8388608 - 1
    le j a h = omega arith

square : (a j : ℕ) → a * 2 ^ j * (a * 2 ^ j) ≡ a * a * 2 ^ (j + j)
square a j = mul-mul-mul_comm a (2 ^ j) a (2 ^ j) ∙ ap (λ (z : ℕ). a * a * z) (sym (pow-add 2 j j))

-- twice the midpoint above is (2 * a + 1) * 2 ^ j at least
mid_above : (j a : ℕ) → 8388608 ≤ a → a ≤ 16777216 → suc (2 * a) * 2 ^ j ≤ mid (suc (j * 8388608 + a))
mid_above j a h k =
    let p = j * 8388608 + a in
    add (2 ^ j) a (val (suc p - 1)) (val p) (gap p) (val (suc p)) (ap val (pred p)) (val_at j a h k) (gap_at j a h)
    (val_suc p)
  where
    pred : (p : ℕ) → suc p - 1 ≡ p
    pred p = omega arith

    add : (x a u v g w : ℕ) → u ≡ v → v ≡ a * x → x ≤ g → w ≡ v + g → suc (2 * a) * x ≤ u + w
    add x a u v g w e f h k = omega arith

-- and the midpoint below s * 2 ^ j at most, for a = (s + 1) / 2
mid_below
    : (j s a : ℕ) → a ≡ (s + 1) / 2 → 16777216 ≤ s → 8388608 ≤ a → a ≤ 16777216
    → mid (j * 8388608 + a) ≤ s * 2 ^ j
mid_below j s a e g h k = elim (eq-or-lt_of_le h) [ inl f ↦ first f | inr l ↦ inside l ]
  where
    p : ℕ
    p = j * 8388608 + a

    first : 8388608 ≡ a → mid p ≤ s * 2 ^ j
    first f =
        le_trans (add-le-add (val_mono (less p)) (le_refl (val p)))
        (le_trans (le_of_eq (two (val p) a (2 ^ j) (val_at j a h k))) (mul-le-mul_right (2 ^ j) (small s a f g)))
      where
        less : (p : ℕ) → p - 1 ≤ p
        less p = omega arith

        two : (v a x : ℕ) → v ≡ a * x → v + v ≡ 2 * a * x
        two v a x h = omega arith

        small : (s a : ℕ) → 8388608 ≡ a → 16777216 ≤ s → 2 * a ≤ s
        small s a f g = omega arith

    inside : 8388608 < a → mid p ≤ s * 2 ^ j
    inside l =
        let q : val (p - 1) ≡ (a - 1) * 2 ^ j = ap val (pred j a l) ∙ val_at j (a - 1) (low a l) (high a k) in
        le_trans (le_of_eq (add (2 ^ j) a (val (p - 1)) (val p) q (val_at j a h k)))
        (mul-le-mul_right (2 ^ j) (small s a e))
      where
        pred : (j a : ℕ) → 8388608 < a → j * 8388608 + a - 1 ≡ j * 8388608 + (a - 1)
        pred j a l = omega arith

        low : (a : ℕ) → 8388608 < a → 8388608 ≤ a - 1
        low a l = omega arith

        high : (a : ℕ) → a ≤ 16777216 → a - 1 ≤ 16777216
        high a l = omega arith

        add : (x a u v : ℕ) → u ≡ (a - 1) * x → v ≡ a * x → u + v ≡ (a - 1 + a) * x
        add x a u v e f = omega arith

        small : (s a : ℕ) → a ≡ (s + 1) / 2 → a - 1 + a ≤ s
        small s a e = omega arith

-- ---- half the root of N, rounded
pub at_most : (N a : ℕ) → Nearest N a → N < 1125899906842624 → a ≤ 16777216
at_most N a h most =
    le_of_not (λ (g : 33554432 ≤ a + a - 1). not-le_of_lt (lt_of_le_of_lt (mul-le-mul g g) (lt_of_lt_of_le h.over
    (le_of_lt most))) (le_refl (33554432 * 33554432)))
  where
    le_of_not : ((33554432 ≤ a + a - 1) → ⊥) → a ≤ 16777216
    le_of_not f = omega arith

pub found
    : (n N j a : ℕ) → n * 2 ^ 151 ≡ N * 2 ^ (j + j) → Nearest N a → 281474976710656 ≤ N → N < 1125899906842624
    → Found n (j * 8388608 + a)
found n N j a e h least most = (
  le_trans below (le_of_eq (sym e)),
  lt_of_le_of_lt (le_of_eq e)
      (lt_of_lt_of_le (mul-lt-mul_of_pos_right (lt_of_lt_of_le h.under (mul-le-mul up up)) (pow_pos (j + j)))
      (le_trans (le_of_eq (sym (square (suc (2 * a)) j))) (mul-le-mul above above))),
)
  where
    a_low : 8388608 ≤ a
    a_low =
        le_of_not (λ (g : a + a + 1 ≤ 16777216). not-le_of_lt (lt_of_lt_of_le h.under (mul-le-mul g g)) least)
      where
        le_of_not : ((a + a + 1 ≤ 16777216) → ⊥) → 8388608 ≤ a
        le_of_not f = omega arith

    a_high : a ≤ 16777216
    a_high = at_most N a h most

    up : a + a + 1 ≤ suc (2 * a)
    up = omega arith

    above : suc (2 * a) * 2 ^ j ≤ mid (suc (j * 8388608 + a))
    above = mid_above j a a_low a_high

    below_by
        : (s : ℕ) → a ≡ (s + 1) / 2 → 16777216 ≤ s → s * s ≤ N
        → mid (j * 8388608 + a) * mid (j * 8388608 + a) ≤ N * 2 ^ (j + j)
    below_by s f g lo =
        let m = mid_below j s a f g a_low a_high in
        le_trans (mul-le-mul m m) (le_trans (le_of_eq (square s j)) (mul-le-mul_right (2 ^ (j + j)) lo))

    below : mid (j * 8388608 + a) * mid (j * 8388608 + a) ≤ N * 2 ^ (j + j)
    below =
        elim (eq-or-lt_of_le a_low) [
          | inl f ↦ below_by 16777216 (omega arith) (le_refl 16777216) least
          | inr l ↦ below_by (a + a - 1) (omega arith) (omega arith) (le_of_lt h.over)
        ]

-- ---- how N and j are come by
pub expo_pos : (f : ℕ) → 0 < expo f
expo_pos zero = lit< tt
expo_pos (suc f) = omega arith

pub expo_le : (f c : ℕ) → f ≤ c → 1 ≤ c → expo f ≤ c
expo_le zero c h k = k
expo_le (suc f) c h k = h

pub expo_zero : (f : ℕ) → f ≡ 0 → 1 ≡ expo f
expo_zero f h = ap expo (sym h)

pub expo_some : (f : ℕ) → (f ≡ 0 → ⊥) → f ≡ expo f
expo_some zero h = absurd (h refl)
expo_some (suc f) h = refl

pub digs_zero : (f t : ℕ) → f ≡ 0 → t ≡ digs f t
digs_zero f t h = ap (λ (z : ℕ). digs z t) (sym h)

pub digs_some : (f t : ℕ) → (f ≡ 0 → ⊥) → t + 8388608 ≡ digs f t
digs_some zero t h = absurd (h refl)
digs_some (suc f) t h = refl

pub digs_lt : (f t : ℕ) → t < 8388608 → digs f t < 16777216
digs_lt zero t h = omega arith
digs_lt (suc f) t h = omega arith

fields_is : (f t : ℕ) → fields f t ≡ digs f t * 2 ^ (expo f - 1)
fields_is zero t = sym (mul-one t)
fields_is (suc f) t = both t (2 ^ f) (2 ^ (suc f - 1)) (ap (λ (z : ℕ). 2 ^ z) (pred f))
  where
    pred : (f : ℕ) → f ≡ suc f - 1
    pred f = omega arith

    both : (t x y : ℕ) → x ≡ y → (8388608 + t) * x ≡ (t + 8388608) * y
    both t x y e = ap (λ (z : ℕ). (8388608 + t) * z) e ∙ (omega arith)

scale : (v m e c i : ℕ) → v ≡ m * 2 ^ (e - 1) → e - 1 + 151 ≡ c + i → v * 2 ^ 151 ≡ m * 2 ^ c * 2 ^ i
scale v m e c i h k =
    ap (λ (z : ℕ). z * 2 ^ 151) h ∙ mul_assoc m (2 ^ (e - 1)) (2 ^ 151)
    ∙ ap (λ (z : ℕ). m * z) (sym (pow-add 2 (e - 1) 151) ∙ ap (λ (z : ℕ). 2 ^ z) k ∙ pow-add 2 c i)
    ∙ sym (mul_assoc m (2 ^ c) (2 ^ i))

-- m and e as the code has them
module _ (b m e : ℕ) (d : m ≡ digs (b / 8388608) (b % 8388608)) (x : e ≡ expo (b / 8388608)) where
  value : val b ≡ m * 2 ^ (e - 1)
  value =
      fields_is (b / 8388608) (b % 8388608) ∙ ap (λ (z : ℕ). z * 2 ^ (expo (b / 8388608) - 1)) (sym d) ∙ ap
      (λ (z : ℕ). m * 2 ^ (z - 1)) (sym x)

  some : 0 < e
  some = subst (λ (z : ℕ). 0 < z) (sym x) (expo_pos (b / 8388608))

  at : (n : ℕ) → Scaled b n ((e + 1) / 2 + 62) → Scaled b n ((expo (b / 8388608) + 1) / 2 + 62)
  at n h = subst (λ (z : ℕ). Scaled b n ((z + 1) / 2 + 62)) x h

  few : m < 16777216
  few = subst (λ (z : ℕ). z < 16777216) (sym d) (digs_lt (b / 8388608) (b % 8388608) (omega arith))

  pub start_even
      : e % 2 ≡ 0
      → (m * 2 % 4294967296 < 33554432)
      × Scaled b (m * 2 % 4294967296 * 33554432) ((expo (b / 8388608) + 1) / 2 + 62)
  start_even o =
      let p = some in
      let f = few in
      let g : m * 67108864 ≡ m * 2 % 4294967296 * 33554432 = omega arith in (
        omega arith,
        subst (λ (z : ℕ). Scaled b z ((expo (b / 8388608) + 1) / 2 + 62)) g
            (at (m * 67108864) record {
              same = scale (val b) m e 26 ((e + 1) / 2 + 62 + ((e + 1) / 2 + 62)) value
                  (omega arith);
            }),
      )

  pub start_odd
      : (e % 2 ≡ 0 → ⊥) → (m < 33554432) × Scaled b (m * 33554432) ((expo (b / 8388608) + 1) / 2 + 62)
  start_odd o =
      let f = few in (
        omega arith,
        at (m * 33554432) record {
          same = scale (val b) m e 25 ((e + 1) / 2 + 62 + ((e + 1) / 2 + 62)) value
              (omega arith);
        },
      )

-- a turn of the loop: N times 4, j less 1
no_zero : (v n : ℕ) → v * 2 ^ 151 ≡ n * 1 → 0 < n → n < 281474976710656 → ⊥
no_zero zero n e h k = nothing n (sym (mul-one n) ∙ sym e ∙ zero-mul (2 ^ 151)) h
  where
    nothing : (n : ℕ) → n ≡ 0 → 0 < n → ⊥
    nothing n e h = omega arith
no_zero (suc v) n e h k =
    not-le_of_lt k (le_trans (le_trans (leb→le 281474976710656 (1 * 2 ^ 151) tt)
    (mul-le-mul_right (2 ^ 151) (one v))) (le_of_eq (e ∙ mul-one n)))
  where
    one : (v : ℕ) → 1 ≤ suc v
    one v = omega arith

pub j_pos : (b n j : ℕ) → Scaled b n j → 0 < n → n < 281474976710656 → 0 < j
j_pos b n zero e h k = absurd (no_zero (val b) n e.same h k)
j_pos b n (suc j) e h k = omega arith

pub four_times : (m : ℕ) → m < 8388608 → m * 4 % 4294967296 ≡ m * 4
four_times m k = mod-eq_of_lt (omega arith)

pub turn
    : (b m j : ℕ) → 0 < j → m < 8388608 → Scaled b (m * 33554432) j
    → Scaled b (m * 4 % 4294967296 * 33554432) (j - 1)
turn b m j h k e = record {
  same = e.same ∙ ap (λ (z : ℕ). m * 33554432 * 2 ^ z) (two j h)
      ∙ ap (λ (z : ℕ). m * 33554432 * z) (pow-add 2 2 (j - 1 + (j - 1)))
      ∙ sym (mul_assoc (m * 33554432) 4 (2 ^ (j - 1 + (j - 1))))
      ∙ ap (λ (z : ℕ). z * 2 ^ (j - 1 + (j - 1))) (four m k);
}
  where
    two : (j : ℕ) → 0 < j → j + j ≡ 2 + (j - 1 + (j - 1))
    two j h = omega arith

    four : (m : ℕ) → m < 8388608 → m * 33554432 * 4 ≡ m * 4 % 4294967296 * 33554432
    four m k = let q = four_times m k in omega arith

pub m_pos : (b m j : ℕ) → 0 < b → Scaled b (m * 33554432) j → 0 < m
m_pos b zero j h e =
    absurd (not-le_of_lt (mul-lt-mul_of_pos_right (val_lt h) (pow_pos 151))
    (le_of_eq (e.same ∙ zero-mul (2 ^ (j + j)))))
m_pos b (suc m) j h e = omega arith

pub result
    : (b n j a : ℕ) → b < 2139095040 → j ≤ 190 → Scaled b n j → Nearest n a → 281474976710656 ≤ n
    → n < 1125899906842624 → j * 8388608 % 4294967296 + a ≡ root_bits (val b)
result b n j a h k e r least most =
    let f = found (val b) n j a e.same r least most in
    ap (λ (z : ℕ). z + a) (mod-eq_of_lt (omega arith))
    ∙ bits_unique (val b) (j * 8388608 + a) (val_small b h) f.0 f.1

pub begin
    : (b n e : ℕ) → e ≡ expo (b / 8388608) → Scaled b n ((expo (b / 8388608) + 1) / 2 + 62)
    → Scaled b n ((e + 1) / 2 + 62)
begin b n e x h = subst (λ (z : ℕ). Scaled b n ((z + 1) / 2 + 62)) (sym x) h

pub e_small : (b e : ℕ) → e ≡ expo (b / 8388608) → b < 2139095040 → e ≤ 254
e_small b e x h = le_trans (le_of_eq x) (expo_le (b / 8388608) 254 (omega arith) (lit≤ tt))

pub zero_is : (b : ℕ) → b ≡ 0 → 0 ≡ root_bits (val b)
unfolding root_bits
zero_is b h = subst (λ (z : ℕ). 0 ≡ root_bits (val z)) (sym h) refl
