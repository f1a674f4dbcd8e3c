-- What `root_of` gives is the root: nearer to √x than every other f32 is. No other f32 is. And it grows with x. Assumes
-- nothing.
use Rattle.std.proofs.Common.{◌≡◌, ℕ, zero, suc, ◌+◌, ◌-◌, ◌*◌, ◌/◌, ◌%◌, ◌^◌, ◌<◌, ◌≤◌, Bool, true, false, cond, not, T, eqb, ltb, leb, ℤ, pos, negsuc, sym, refl, ap, ◌∙◌, subst, lt_trans, lt_irrefl, mod-eq_of_lt, add_comm, le_antisymm, lt_of_not-le, zero-mul, mul-one, not-le_of_lt, mul-div_cancel, arith, le→leb, eqb→eq, ltb→lt, leb→le, nltb→le, pow_pos}
use native.Mathlib.Nat.{zero-div, pow-succ'}
use lib.Dec.{not_T}
use lib.Ieee.{Float, nan, inf, fin, binary32, up, down, odd, of_fields, of_bits, to_bits, fits, size}
use lib.Ieee.Bits.{is_false, is_true, cond_no, of_bits-to_bits, of_bits-fits, to_bits-lt}
use lib.Ieee.Exact.{HasValue, odd_sign}
use lib.Ieee.Fits.{down_pos}
use Rattle.root.specs.Root.{units, plain, IsRoot, fields, val, root_bits, root_of}
use Rattle.root.proofs.Patterns.{lt_of_val, root_found, root_small}
use Rattle.root.proofs.Patterns.{nearer_above, nearer_below, val_small}

-- ---- patterns and values
units_of : (x : Float) (a : ℕ) → HasValue x false a (2 ^ 149) → units x ≡ a
units_of nan a h = absurd h
units_of (inf s) a h = absurd h
units_of (fin s m e) a h = ap (λ (z : ℕ). z / down e) h.1 ∙ mul-div_cancel a (down_pos e)

differ : (x : ℕ) → suc x < 255 → suc x ≡ 255 → ⊥
differ x h e = omega arith

fields_value : (e t : ℕ) → e < 255 → HasValue (of_fields binary32 false e t) false (fields e t) (2 ^ 149)
unfolding of_fields
fields_value zero t h =
    subst (λ (a : ℕ). HasValue (odd 24 false t 0 149) false a (2 ^ 149)) (mul-one t) (odd_sign 24 false t 0 149)
fields_value (suc e) t h =
    subst (λ (x : Float). HasValue x false ((8388608 + t) * 2 ^ e) (2 ^ 149))
    (sym (cond_no (eqb (suc e) 255) (cond (eqb t 0) (inf false) nan) (odd 24 false (8388608 + t) e 149)
    (not_T (eqb (suc e) 255) (λ (u : T (eqb (suc e) 255)). differ e h (eqb→eq (suc e) 255 u)))))
    (odd_sign 24 false (8388608 + t) e 149)

of_bits_is
    : (p : ℕ) → of_bits binary32 p ≡ of_fields binary32 (leb 2147483648 p) (p % 2147483648 / 8388608) (p % 8388608)
unfolding of_bits
of_bits_is p = refl

unsigned : (p : ℕ) → p < 2147483648 → of_bits binary32 p ≡ of_fields binary32 false (p / 8388608) (p % 8388608)
unsigned p h =
    of_bits_is p
    ∙ ap (λ (s : Bool). of_fields binary32 s (p % 2147483648 / 8388608) (p % 8388608))
    (is_false (leb 2147483648 p)
    (not_T (leb 2147483648 p) (λ (u : T (leb 2147483648 p)). not-le_of_lt h (leb→le 2147483648 p u))))
    ∙ ap (λ (x : ℕ). of_fields binary32 false (x / 8388608) (p % 8388608)) (mod-eq_of_lt h)

pub bits_value : (p : ℕ) → p < 2139095040 → HasValue (of_bits binary32 p) false (val p) (2 ^ 149)
bits_value p h =
    subst (λ (x : Float). HasValue x false (val p) (2 ^ 149)) (sym (unsigned p (omega arith)))
    (fields_value (p / 8388608) (p % 8388608) (omega arith))

pub bits_units : (p : ℕ) → p < 2139095040 → units (of_bits binary32 p) ≡ val p
bits_units p h = units_of (of_bits binary32 p) (val p) (bits_value p h)

plain_of : (x : Float) (a : ℕ) → T (fits binary32 x) → HasValue x false a (2 ^ 149) → T (plain x)
plain_of nan a f h = absurd h
plain_of (inf s) a f h = absurd h
plain_of (fin true m e) a f h = absurd (subst (λ (b : Bool). T b) h.0 tt)
plain_of (fin false m e) a f h = f

pub bits_plain : (p : ℕ) → p < 2139095040 → T (plain (of_bits binary32 p))
bits_plain p h = plain_of (of_bits binary32 p) (val p) (of_bits-fits binary32 p) (bits_value p h)

-- ---- the pattern of a value that is plain
-- 1 for what is finite with the sign clear, and 0 for all else
abbrev kind : Float → ℕ
kind nan = 0
kind (inf s) = 0
kind (fin true m e) = 0
kind (fin false m e) = 1

kind_odd : (d q k l : ℕ) → kind (odd d true q k l) ≡ 0
unfolding odd
kind_odd d zero k l = refl
kind_odd d (suc q) k l = refl

kind_cond : (b c : Bool) (x : Float) → kind x ≡ 0 → (s : Bool) → kind (cond b (cond c (inf s) nan) x) ≡ 0
kind_cond true true x h s = refl
kind_cond true false x h s = refl
kind_cond false c x h s = h

kind_signed : (e t : ℕ) → kind (of_fields binary32 true e t) ≡ 0
unfolding of_fields
kind_signed zero t = kind_odd 24 t 0 149
kind_signed (suc e) t =
    kind_cond (eqb (suc e) 255) (eqb t 0) (odd 24 true (8388608 + t) e 149) (kind_odd 24 (8388608 + t) e 149) true

kind_ones : (t : ℕ) → kind (of_fields binary32 false 255 t) ≡ 0
unfolding of_fields
kind_ones t = go (eqb t 0)
  where
    go : (b : Bool) → kind (cond b (inf false) nan) ≡ 0
    go true = refl
    go false = refl

kind_bits : (p : ℕ) → p < 4294967296 → kind (of_bits binary32 p) ≡ 1 → p < 2139095040
kind_bits p h k = go (ltb p 2147483648) (ltb→lt p 2147483648) (nltb→le p 2147483648)
  where
    one : (x : ℕ) → x ≡ 1 → x ≡ 0 → ⊥
    one x a b = omega arith

    ones : (p : ℕ) → p < 2147483648 → 2139095040 ≤ p → p / 8388608 ≡ 255
    ones p a b = omega arith

    go : (b : Bool) → (T b → p < 2147483648) → (T (not b) → 2147483648 ≤ p) → p < 2139095040
    go true l g =
        lt_of_not-le (λ (u : 2139095040 ≤ p). one (kind (of_bits binary32 p)) k
        (ap kind (unsigned p (l tt) ∙ ap (λ (x : ℕ). of_fields binary32 false x (p % 8388608)) (ones p (l tt) u))
        ∙ kind_ones (p % 8388608)))
    go false l g =
        absurd (one (kind (of_bits binary32 p)) k
        (ap kind (of_bits_is p ∙ ap (λ (s : Bool). of_fields binary32 s (p % 2147483648 / 8388608) (p % 8388608))
        (is_true (leb 2147483648 p) (le→leb 2147483648 p (g tt)))) ∙ kind_signed (p % 2147483648 / 8388608)
        (p % 8388608)))

plain_fits : (y : Float) → T (plain y) → T (fits binary32 y)
plain_fits nan h = absurd h
plain_fits (inf s) h = absurd h
plain_fits (fin true m e) h = absurd h
plain_fits (fin false m e) h = h

plain_kind : (y : Float) → T (plain y) → kind y ≡ 1
plain_kind nan h = absurd h
plain_kind (inf s) h = absurd h
plain_kind (fin true m e) h = absurd h
plain_kind (fin false m e) h = refl

pub plain_bits : (y : Float) → T (plain y) → of_bits binary32 (to_bits binary32 y) ≡ y
plain_bits y h = of_bits-to_bits binary32 y (plain_fits y h)

pub plain_small : (y : Float) → T (plain y) → to_bits binary32 y < 2139095040
plain_small y h =
    kind_bits (to_bits binary32 y) (to_bits-lt binary32 y (plain_fits y h)) (ap kind (plain_bits y h) ∙ plain_kind y h)

pub plain_units : (y : Float) → T (plain y) → units y ≡ val (to_bits binary32 y)
plain_units y h = ap units (sym (plain_bits y h)) ∙ bits_units (to_bits binary32 y) (plain_small y h)

-- ---- equal units, equal values
same_bits
    : (x y : Float) → T (plain x) → T (plain y) → units x ≡ units y → to_bits binary32 x ≡ to_bits binary32 y
unfolding to_bits
same_bits nan y p q h = absurd p
same_bits (inf s) y p q h = absurd p
same_bits (fin true m e) y p q h = absurd p
same_bits (fin false m e) nan p q h = absurd q
same_bits (fin false m e) (inf t) p q h = absurd q
same_bits (fin false m e) (fin true n d) p q h = absurd q
same_bits (fin false m e) (fin false n d) p q h = ap (λ (u : ℕ). bits_of u) h
  where
    bits_of : ℕ → ℕ
    bits_of u = 0 + (size u - 24) * 8388608 + u / 2 ^ (size u - 24)

pub same : (x y : Float) → T (plain x) → T (plain y) → units x ≡ units y → x ≡ y
same x y p q h = sym (plain_bits x p) ∙ ap (of_bits binary32) (same_bits x y p q h) ∙ plain_bits y q

-- ---- the root
zero_root : fin false 0 (pos 0) ≡ of_bits binary32 (root_bits 0)
unfolding of_bits root_bits
zero_root = refl

-- a zero is written in one way
pub zero_exponent : (s : Bool) (e : ℤ) → T (fits binary32 (fin s zero e)) → e ≡ pos 0
unfolding fits
zero_exponent s (pos zero) h = refl
zero_exponent s (pos (suc k)) h =
    absurd (more (2 ^ k) (pow_pos k) (sym (ap (λ (z : ℕ). z * 1) (pow-succ' 2 k)) ∙ eqb→eq (2 ^ suc k * 1) 1 h))
  where
    more : (x : ℕ) → 0 < x → 2 * x * 1 ≡ 1 → ⊥
    more x h e = omega arith
zero_exponent s (negsuc k) h =
    absurd (more (2 ^ k) (pow_pos k) (sym (ap (λ (z : ℕ). 1 * z) (pow-succ' 2 k)) ∙ eqb→eq (1 * 2 ^ suc k) 1 h))
  where
    more : (x : ℕ) → 0 < x → 1 * (2 * x) ≡ 1 → ⊥
    more x h e = omega arith

no_units : (e : ℤ) → 0 * up e * 2 ^ 149 / down e ≡ 0
no_units e =
    ap (λ (n : ℕ). n * 2 ^ 149 / down e) (zero-mul (up e)) ∙ ap (λ (n : ℕ). n / down e) (zero-mul (2 ^ 149))
    ∙ zero-div (down e)

pub root_opened : (x : Float) → T (plain x) → root_of x ≡ of_bits binary32 (root_bits (units x))
unfolding root_of
root_opened nan h = absurd h
root_opened (inf s) h = absurd h
root_opened (fin true m e) h = absurd h
root_opened (fin false zero e) h =
    ap (λ (z : ℤ). fin false 0 z) (zero_exponent false e h) ∙ zero_root ∙ ap
    (λ (n : ℕ). of_bits binary32 (root_bits n)) (sym (no_units e))
root_opened (fin false (suc m) e) h = refl

pub plain_under : (x : Float) → T (plain x) → units x < 2 ^ 277
plain_under x h =
    subst (λ (n : ℕ). n < 2 ^ 277) (sym (plain_units x h)) (val_small (to_bits binary32 x) (plain_small x h))

pub root_plain : (x : Float) → T (plain x) → T (plain (root_of x))
root_plain x h =
    subst (λ (r : Float). T (plain r)) (sym (root_opened x h))
    (bits_plain (root_bits (units x)) (root_small (units x) (plain_under x h)))

pub root_units : (x : Float) → T (plain x) → units (root_of x) ≡ val (root_bits (units x))
root_units x h = ap units (root_opened x h) ∙ bits_units (root_bits (units x)) (root_small (units x) (plain_under x h))

-- `root_of` gives the root
pub root_is : (x : Float) → T (plain x) → IsRoot x (root_of x)
root_is x h =
    let n = units x in
    let p = root_bits n in
    let f = root_found n (plain_under x h) in
    let e = root_units x h in
    record {
      asked = h;
      held = root_plain x h;
      under = λ y q l.
          let d = plain_units y q in
          rw (e, d) (nearer_above n p (to_bits binary32 y) f.1 (lt_of_val (rw (e, d) at l)));
      over = λ y q l.
          let d = plain_units y q in
          rw (e, d) (rw (plain_units x h) (nearer_below (to_bits binary32 x) (root_bits (val (to_bits binary32 x)))
          (to_bits binary32 y) (rw (plain_units x h) at f.0) (lt_of_val (rw (plain_units x h) at (rw (e, d) at l)))));
    }

-- and nothing else is the root
pub root_only : (x r s : Float) → IsRoot x r → IsRoot x s → r ≡ s
root_only x r s a b = same r s a.held b.held (le_antisymm (no r s a b) (no s r b a))
  where
    le-of-not : (m n : ℕ) → (n < m → ⊥) → m ≤ n
    le-of-not m n f = omega arith

    no : (r s : Float) → IsRoot x r → IsRoot x s → units r ≤ units s
    no r s a b =
        le-of-not (units r) (units s) (λ (l : units s < units r). lt_irrefl (units x * 2 ^ 151)
        (lt_trans (b.under r a.held l) (subst (λ (z : ℕ). z * z < units x * 2 ^ 151)
        (add_comm (units r) (units s)) (a.over s b.held l))))

pub root_unique : (x r : Float) → IsRoot x r → r ≡ root_of x
root_unique x r a = root_only x r (root_of x) a (root_is x a.asked)

-- ---- examples
-- the root of the smallest f32, of the largest, of the largest below 1, and of the smallest that is normal
least : to_bits binary32 (root_of (of_bits binary32 1)) ≡ 0x1a3504f3
unfolding root_of to_bits of_bits
least = refl

largest : to_bits binary32 (root_of (of_bits binary32 0x7f7fffff)) ≡ 0x5f7fffff
unfolding root_of to_bits of_bits
largest = refl

normal : to_bits binary32 (root_of (of_bits binary32 0x00800000)) ≡ 0x20000000
unfolding root_of to_bits of_bits
normal = refl
