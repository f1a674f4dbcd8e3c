-- The root grows with x, and it is at least b exactly where x is at least the square of the midpoint of b and the f32
-- just below, which an f64 holds. Assumes nothing.
use Rattle.std.proofs.Common.{ℕ, ◌*◌, ◌^◌, ◌<◌, ◌≤◌, Bool, true, false, ◌&&◌, ◌||◌, T, eqb, ltb, ◌⊎◌, sym, subst, inl, inr, le_trans, le_of_eq, le_of_lt, mul-le-mul_right, le_of_mul-le-mul_right, eqb→eq, ltb→lt, pow_pos}
use lib.Ieee.{Float, nan, inf, fin, binary32, up, down, to_bits, le}
use lib.Ieee.Exact.{HasValue}
use lib.Ieee.Fits.{down_pos, and_l}
use lib.Ieee.Order.{transfer, le_of_values}
use Rattle.root.specs.Root.{units, plain, val, root_bits, root_of}
use Rattle.root.proofs.Patterns.{val_mono, root_mono, le_of_val, reached_iff, Reached}
use Rattle.root.proofs.Laws.{bits_value, plain_bits, plain_small, plain_units, plain_under, root_plain}
use Rattle.root.proofs.Laws.{root_units}

-- ---- the order of the values is that of their units
pub plain_value : (x : Float) → T (plain x) → HasValue x false (units x) (2 ^ 149)
plain_value x h =
    subst (λ (n : ℕ). HasValue x false n (2 ^ 149)) (sym (plain_units x h))
    (subst (λ (y : Float). HasValue y false (val (to_bits binary32 x)) (2 ^ 149)) (plain_bits x h)
    (bits_value (to_bits binary32 x) (plain_small x h)))

pub units→le : (x y : Float) → T (plain x) → T (plain y) → units x ≤ units y → T (le x y)
units→le x y p q h =
    le_of_values x y (units x) (2 ^ 149) (units y) (2 ^ 149) (pow_pos 149) (pow_pos 149) (plain_value x p)
    (plain_value y q) (mul-le-mul_right (2 ^ 149) h)

or_split : (a b : Bool) → T (a || b) → T a ⊎ T b
or_split true b t = inl tt
or_split false b t = inr t

lt_or_eq : (a b : ℕ) → T (ltb a b || (eqb a b && true)) → a ≤ b
lt_or_eq a b t =
    elim (or_split (ltb a b) (eqb a b && true) t) [
      | inl u ↦ le_of_lt (ltb→lt a b u)
      | inr u ↦ le_of_eq
          (eqb→eq a b (and_l (eqb a b) true u))
    ]

-- of two fractions that two values are
pub le→fractions
    : (x y : Float) (a c b d : ℕ) → 0 < c → 0 < d → HasValue x false a c → HasValue y false b d
    → T (le x y) → a * d ≤ b * c
unfolding le
le→fractions nan y a c b d C D p q h = absurd p
le→fractions (inf s) y a c b d C D p q h = absurd p
le→fractions (fin true m e) y a c b d C D p q h = absurd (subst (λ (b : Bool). T b) p.0 tt)
le→fractions (fin false m e) nan a c b d C D p q h = absurd q
le→fractions (fin false m e) (inf t) a c b d C D p q h = absurd q
le→fractions (fin false m e) (fin true n k) a c b d C D p q h = absurd (subst (λ (b : Bool). T b) q.0 tt)
le→fractions (fin false m e) (fin false n k) a c b d C D p q h =
    transfer a b c d (m * up e) (n * up k) (down e) (down k) (down_pos e) (down_pos k) (sym p.1) (sym q.1)
    (lt_or_eq (m * up e * down k) (n * up k * down e) h)

pub le→units : (x y : Float) → T (plain x) → T (plain y) → T (le x y) → units x ≤ units y
le→units x y p q h =
    le_of_mul-le-mul_right (le→fractions x y (units x) (2 ^ 149) (units y) (2 ^ 149) (pow_pos 149) (pow_pos 149)
    (plain_value x p) (plain_value y q) h) (pow_pos 149)

-- ---- the root grows with x
pub root_grows : (x y : Float) → T (plain x) → T (plain y) → T (le x y) → T (le (root_of x) (root_of y))
root_grows x y p q h =
    units→le (root_of x) (root_of y) (root_plain x p) (root_plain y q)
    (le_trans (le_of_eq (root_units x p))
    (le_trans (val_mono (root_mono (units x) (units y) (le→units x y p q h) (plain_under y q)))
    (le_of_eq (sym (root_units y q)))))

-- ---- where the root is at least b
-- in units: √x reaches b where it reaches the midpoint of b and the f32 below
pub root_reaches
    : (x b : Float) → T (plain x) → T (plain b) → (T (le b (root_of x))
    → Reached (units x) (to_bits binary32 b)) × (Reached (units x) (to_bits binary32 b) → T (le b (root_of x)))
root_reaches x b p q =
    let r = reached_iff (units x) (to_bits binary32 b) (plain_under x p) in (
      λ h. r.0 (le_of_val (to_bits binary32 b) (root_bits (units x))
          (le_trans (le_of_eq (sym (plain_units b q))) (le_trans (le→units b (root_of x) q (root_plain x p) h)
          (le_of_eq (root_units x p))))),
      λ h. units→le b (root_of x) q (root_plain x p)
          (le_trans (le_of_eq (plain_units b q)) (le_trans (val_mono (r.1 h)) (le_of_eq (sym (root_units x p))))),
    )
