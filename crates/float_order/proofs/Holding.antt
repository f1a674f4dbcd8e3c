-- Rounding does not cross a value that the format holds: a fraction of at least x rounds to at least x. So what is not
-- negative moves a sum up, and a difference down. Assumes nothing.
use mathlib.Core.Path.{◌≡◌, refl, sym, ap, subst, ◌∙◌}
use mathlib.Core.Bool.{Bool, true, false, cond, ◌&&◌, true≢false}
use Prim.Native.Nat.{ℕ, zero, suc, ◌+◌, ◌-◌, ◌*◌, ◌/◌, ◌%◌, ◌^◌, ◌≤◌, ◌<◌}
use native.Mathlib.Nat.{add-mul, mul_assoc, mul_comm, mul_right_comm, mul-le-mul_right, mul-pos, mul-one, zero-mul}
use native.Mathlib.Nat.{mul-lt-mul_of_pos_right, lt_of_lt_of_le, lt_of_not-le, not-le_of_lt, le_of_eq, le_of_suc-le-suc}
use native.Mathlib.Omega.{arith}
use lib.Dec.{T, leb, ltb, eqb, ltb→lt, leb→le}
use lib.IntN.{ℤ, pos, negsuc}
use lib.Pow.{pow-add, pow_pos, pow-lt}
use lib.Ieee.{Float, nan, inf, fin, Format, prec, emax, low, up, down, size, hid, top, round, neg, add, sub, le}
use lib.Ieee.{fits, to_bits, of_bits}
use lib.Ieee.Bits.{of_bits-to_bits}
use lib.Ieee.Nearest.{div_same}
use lib.Ieee.Fits.{and_l, and_r, down_pos, round-fits}
use lib.Ieee.Exact.{HasValue, round_exact}
use lib.Ieee.Digits.{back}
use lib.Ieee.Positive.{den, den_pos}
use lib.Ieee.Scale.{finite}
use Rattle.float_order.specs.Inside.Order.{credit, debit, zero_f, Rounded}
use Rattle.float_order.proofs.Order.{finite_number, le→at_most, at_most→le, le_left, le_right, bottom_le}
use Rattle.float_order.proofs.Order.{le_refl, le_trans, neg_le, neg_number}
use Rattle.float_order.proofs.Rounding.{rounded_mono, add_rounded, add_mono, add_inf_right}
use Rattle.float_order.proofs.Rounding.{add_number'}

-- ---- a value that the format holds is not rounded
low_enough : (k l : ℕ) → 2 ^ k ≤ 2 ^ l → k ≤ l
low_enough k l h = le_of_suc-le-suc (lt_of_not-le (λ g. not-le_of_lt (pow-lt g) h))

pub round_up
    : (f : Format) (s : Bool) (m k : ℕ) → m < 2 ^ prec f → m * 2 ^ k < 2 ^ suc (emax f) * 1
    → HasValue (round f s (m * 2 ^ k) 1) s (m * 2 ^ k) 1
round_up f s m k h g =
    let l = low f in
    let e : m * 2 ^ k * 2 ^ l ≡ m * 2 ^ (k + l) = mul_assoc m (2 ^ k) (2 ^ l) ∙ ap (λ (z : ℕ). m * z)
    (sym (pow-add 2 k l)) in
    round_exact f s (m * 2 ^ k) 1 m (k + l) (pow_pos 0) h
    (subst (λ (z : ℕ). z < 2 ^ (l + suc (emax f))) e
    (lt_of_lt_of_le (mul-lt-mul_of_pos_right g (pow_pos l))
    (le_of_eq (ap (λ (z : ℕ). z * 2 ^ l) (mul-one (2 ^ suc (emax f))) ∙ mul_comm (2 ^ suc (emax f)) (2 ^ l)
    ∙ sym (pow-add 2 l (suc (emax f)))))))
    (e ∙ sym (mul-one (m * 2 ^ (k + l))))

round_down
    : (f : Format) (s : Bool) (m k : ℕ) → m < 2 ^ prec f → 2 ^ k ≤ 2 ^ low f
    → m * 1 < 2 ^ suc (emax f) * 2 ^ k → HasValue (round f s (m * 1) (2 ^ k)) s (m * 1) (2 ^ k)
round_down f s m k h d g =
    let l = low f in
    let j = l - k in
    let e : 2 ^ j * 2 ^ k ≡ 2 ^ l = sym (pow-add 2 j k) ∙ ap (λ (z : ℕ). 2 ^ z) (back l k (low_enough k l d)) in
    round_exact f s (m * 1) (2 ^ k) m j (pow_pos k) h
    (lt_of_lt_of_le (mul-lt-mul_of_pos_right (subst (λ (z : ℕ). z < 2 ^ suc (emax f) * 2 ^ k) (mul-one m) g)
    (pow_pos j))
    (le_of_eq (mul_assoc (2 ^ suc (emax f)) (2 ^ k) (2 ^ j) ∙ ap (λ (z : ℕ). 2 ^ suc (emax f) * z)
    (mul_comm (2 ^ k) (2 ^ j) ∙ e) ∙ mul_comm (2 ^ suc (emax f)) (2 ^ l) ∙ sym (pow-add 2 l (suc (emax f))))))
    (ap (λ (z : ℕ). z * 2 ^ l) (mul-one m) ∙ ap (λ (z : ℕ). m * z) (sym e) ∙ sym
    (mul_assoc m (2 ^ j) (2 ^ k)))

round_held
    : (f : Format) (s : Bool) (m : ℕ) (e : ℤ) → m < 2 ^ prec f → down e ≤ 2 ^ low f
    → m * up e < 2 ^ suc (emax f) * down e → HasValue (round f s (m * up e) (down e)) s (m * up e) (down e)
round_held f s m (pos k) h d g = round_up f s m k h g
round_held f s m (negsuc k) h d g = round_down f s m (suc k) h d g

round_none : (f : Format) (s : Bool) (u d : ℕ) → 0 < d → HasValue (round f s (0 * u) d) s (0 * u) d
round_none f s u d D =
    round_exact f s (0 * u) d 0 0 D (pow_pos (prec f)) (pow_pos (low f + suc (emax f)))
    (ap (λ (z : ℕ). z * 2 ^ low f) (zero-mul u) ∙ none (2 ^ low f) d)
  where
    none : (l d : ℕ) → 0 * l ≡ 0 * 1 * d
    none l d = omega arith

pub fits_held
    : (f : Format) (s t : Bool) (m : ℕ) (e : ℤ) → T (fits f (fin t m e))
    → HasValue (round f s (m * up e) (down e)) s (m * up e) (down e)
unfolding fits
fits_held f s t zero e h = round_none f s (up e) (down e) (down_pos e)
fits_held f s t (suc m) e h =
    let a : Bool = eqb (suc m % 2) 1 in
    let b : Bool = ltb (suc m) (2 ^ prec f) in
    let c : Bool = leb (down e) (2 ^ low f) in
    let d : Bool = ltb (suc m * up e) (2 ^ suc (emax f) * down e) in
    round_held f s (suc m) e
    (ltb→lt (suc m) (2 ^ prec f) (and_r a b (and_l (a && b) c (and_l (a && b && c) d h))))
    (leb→le (down e) (2 ^ low f) (and_r (a && b) c (and_l (a && b && c) d h)))
    (ltb→lt (suc m * up e) (2 ^ suc (emax f) * down e) (and_r (a && b && c) d h))

-- ---- a held value and what it rounds to

held_ge : (s : Bool) (m : ℕ) (e : ℤ) (y : Float) → HasValue y s (m * up e) (down e) → T (le y (fin s m e))
held_ge s m e nan h = absurd h
held_ge s m e (inf t) h = absurd h
held_ge true m e (fin true n d) h = at_most→le (fin true n d) (fin true m e) tt tt (omega (arith, h.1))
held_ge true m e (fin false n d) h = absurd (true≢false (sym h.0))
held_ge false m e (fin true n d) h = absurd (true≢false h.0)
held_ge false m e (fin false n d) h = at_most→le (fin false n d) (fin false m e) tt tt (omega (arith, h.1))

own
    : (f : Format) (s : Bool) (m : ℕ) (e : ℤ)
    → Rounded f (round f s (m * up e) (down e)) (credit (fin s m e)) (debit (fin s m e)) (down e)
own f true m e = record { sign = true; size = m * up e; apart = omega arith; is = refl }
own f false m e = record { sign = false; size = m * up e; apart = omega arith; is = refl }

module _ (f : Format) (x : Float) (held : T (fits f x)) (small : T (finite x)) (r : Float) (p n c : ℕ) (C : 0 < c) (is : Rounded f r p n c) where
  pub rounded_le : p * den x + debit x * c ≤ credit x * c + n * den x → T (le r x)
  rounded_le h = go x held small h
    where
      go
          : (x : Float) → T (fits f x) → T (finite x) → p * den x + debit x * c ≤ credit x * c + n * den x
          → T (le r x)
      go nan k l h = absurd l
      go (inf s) k l h = absurd l
      go (fin s m e) k l h =
          le_trans r (round f s (m * up e) (down e)) (fin s m e)
          (rounded_mono f r (round f s (m * up e) (down e)) p n c (credit (fin s m e)) (debit (fin s m e)) (down e) C
          (down_pos e) is (own f s m e) h) (held_ge s m e (round f s (m * up e) (down e)) (fits_held f s s m e k))

-- ---- a sum with what is not negative is no less, and with what is not positive no more
pub add_down
    : (f : Format) (x m : Float) → T (fits f x) → T (finite x) → T (le m zero_f) → T (le (add f x m) x)
add_down f x nan held small h = absurd (le_left nan zero_f h)
add_down f x (inf true) held small h =
    rw (add_inf_right f true x (add_number' f x (inf true) small tt)) (bottom_le x (finite_number x small))
add_down f x (inf false) held small h = absurd (unfold le in h)
add_down f x (fin s n e) held small h =
    let m = fin s n e in
    rounded_le f x held small (add f x m) _ _ (den x * den m) (mul-pos (den_pos x) (den_pos m))
    (add_rounded f x m small tt)
    (short (credit x) (debit x) (den x) (credit m) (debit m) (den m) (le→at_most m zero_f tt tt h))
  where
    short
        : (c d e c' d' e' : ℕ) → c' * 1 + 0 * e' ≤ 0 * e' + d' * 1
        → (c * e' + c' * e) * e + d * (e * e') ≤ c * (e * e') + (d * e' + d' * e) * e
    short c d e c' d' e' h =
        let k : c' ≤ d' = omega arith in
        let g = mul-le-mul_right e (mul-le-mul_right e k) in
        simp (add-mul, mul_assoc, mul_comm) (omega (arith, simp (mul_assoc, mul_comm) at g))

pub neg_plus : (w : Float) → T (le zero_f w) → T (le (neg w) zero_f)
neg_plus w h = le_trans (neg w) (neg zero_f) zero_f (neg_le zero_f w h) (unfold neg in (unfold le in tt))

-- the two sides of a box around c: c - r ≤ c + r
pub sides : (f : Format) (c r : Float) → T (finite c) → T (le zero_f r) → T (le (sub f c r) (add f c r))
unfolding sub
sides f c r l h =
    add_mono f c c (neg r) r (le_refl c (finite_number c l)) (le_trans (neg r) zero_f r (neg_plus r h) h)
    (add_number' f c (neg r) l (neg_number r (le_right zero_f r h))) (add_number' f c r l (le_right zero_f r h))

-- ---- two values of one sign that a format holds, and that are equal, are one: so what it holds rounds to itself
abbrev bits_from : Format → Bool → ℕ → ℕ
bits_from f s n = cond s (top f) 0 + (size n - prec f) * hid f + n / 2 ^ (size n - prec f)

bits_are
    : (f : Format) (s : Bool) (m : ℕ) (e : ℤ) → to_bits f (fin s m e) ≡ bits_from f s (m * up e * 2 ^ low f / down e)
unfolding to_bits
bits_are f s m e = refl

same_sign
    : (f : Format) (s : Bool) (m : ℕ) (e : ℤ) (n : ℕ) (d : ℤ) → T (fits f (fin s m e)) → T (fits f (fin s n d))
    → m * up e * down d ≡ n * up d * down e → fin s m e ≡ fin s n d
same_sign f s m e n d h k q =
    let l = 2 ^ low f in
    sym (of_bits-to_bits f (fin s m e) h)
    ∙ ap (of_bits f) (bits_are f s m e ∙ ap (bits_from f s)
    (div_same (m * up e * l) (down e) (n * up d * l) (down d) (down_pos e) (down_pos d)
    (mul_right_comm (m * up e) l (down d) ∙ ap (λ (z : ℕ). z * l) q ∙ mul_right_comm (n * up d) (down e) l))
    ∙ sym (bits_are f s n d)) ∙ of_bits-to_bits f (fin s n d) k

pub round_own
    : (f : Format) (s : Bool) (m : ℕ) (e : ℤ) → T (fits f (fin s m e)) → round f s (m * up e) (down e) ≡ fin s m e
round_own f s m e h =
    go (round f s (m * up e) (down e)) (round-fits f s (m * up e) (down e)) (fits_held f s s m e h)
  where
    go : (y : Float) → T (fits f y) → HasValue y s (m * up e) (down e) → y ≡ fin s m e
    go nan k v = absurd v
    go (inf t) k v = absurd v
    go (fin t n d) k v = sign t v.0 k v.1
      where
        sign
            : (t : Bool) → t ≡ s → T (fits f (fin t n d)) → n * up d * down e ≡ m * up e * down d
            → fin t n d ≡ fin s m e
        sign t p k q =
            ap (λ (u : Bool). fin u n d) p
            ∙ same_sign f s n d m e (subst (λ (u : Bool). T (fits f (fin u n d))) p k) h q
