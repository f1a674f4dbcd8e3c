-- A root against w by the square of w, worked out in f64, which holds it: where x is at least that the root is at least
-- w, where x is at most that the root is at
-- most w. Weaker than `bar_law`, and cheaper: no bits are looked at. Assumes nothing.
use Rattle.std.proofs.Common.{◌≡◌, ℕ, suc, ◌+◌, ◌-◌, ◌*◌, ◌^◌, ◌<◌, ◌≤◌, false, T, sym, ap, ◌∙◌, subst, le_trans, le_of_eq, lt_of_lt_of_le, le_of_suc-le-suc, mul_assoc, mul-le-mul, lt_of_not-le, not-le_of_lt, le_of_mul-le-mul_right, arith, lit≤, pow_pos, pow-add}
use native.Mathlib.Nat.{mul-mul-mul_comm}
use lib.Ieee.{Float, binary32, binary64, mul, to_bits, le}
use lib.Ieee.Exact.{HasValue}
use Rattle.root.specs.Root.{units, plain, val, mid, root_bits, root_of}
use Rattle.root.proofs.Patterns.{gap, gap_pos, val_suc, val_mono, reached_iff}
use Rattle.root.proofs.Laws.{plain_small, plain_units, plain_under, root_plain, root_units}
use Rattle.root.proofs.Order.{plain_value, units→le, le→fractions, root_reaches}
use Rattle.root.proofs.BarLaw.{exact, mul_value}
use Rattle.root.proofs.Apart.{short}

module _ (w : Float) (q : T (plain w)) where
  square_value : HasValue (mul binary64 w w) false (units w * units w) (2 ^ 298)
  square_value =
      let s = short (to_bits binary32 w) (plain_small w q) in
      let e : units w ≡ s.0 * 2 ^ s.1 = plain_units w q ∙ s.2 in
      subst (λ (x : Float). HasValue x false (units w * units w) (2 ^ 298))
      (sym (mul_value binary64 w w (units w) (units w) (2 ^ 149) (2 ^ 149) (pow_pos 149) (pow_pos 149) (plain_value w q)
      (plain_value w q)))
      (exact (units w * units w) (s.0 * s.0) (s.1 + s.1) 298 (square (units w) s.0 s.1 e)
      (small s.0 s.3) (twice s.1 s.4) (lit≤ tt))
    where
      square : (w c k : ℕ) → w ≡ c * 2 ^ k → w * w ≡ c * c * 2 ^ (k + k)
      square w c k h =
          ap (λ (z : ℕ). z * z) h ∙ mul-mul-mul_comm c (2 ^ k) c (2 ^ k) ∙ ap (λ (z : ℕ). c * c * z)
          (sym (pow-add 2 k k))

      small : (o : ℕ) → o < 16777216 → o * o < 2 ^ 53
      small o h = let l : o ≤ 16777215 = omega arith in omega (arith, mul-le-mul l l)

      twice : (k : ℕ) → k ≤ 254 → k + k ≤ 508
      twice k h = omega arith

  module _ (x : Float) (h : T (plain x)) where
    -- 4 times what is left of 2 ^ 149
    four : (n : ℕ) → 4 * (n * 2 ^ 149) ≡ n * 2 ^ 151
    four n = go n (2 ^ 149)
      where
        go : (n z : ℕ) → 4 * (n * z) ≡ n * (4 * z)
        go n z = omega arith

    pub reach_law : T (le (mul binary64 w w) x) → T (le w (root_of x))
    reach_law l =
        let p = to_bits binary32 w in
        let a : units w * units w * 2 ^ 149 ≤ units x * 2 ^ 298 = le→fractions (mul binary64 w w) x (units w * units w)
        (2 ^ 298) (units x) (2 ^ 149) (pow_pos 298) (pow_pos 149) square_value (plain_value x h) l in
        let b : units w * units w ≤ units x * 2 ^ 149 = le_of_mul-le-mul_right
        (le_trans a (le_of_eq (sym (mul_assoc (units x) (2 ^ 149) (2 ^ 149))))) (pow_pos 149) in
        let c : mid p ≤ 2 * units w = le_trans (both (val (p - 1)) (val p) (val_mono (less p)))
        (le_of_eq (ap (λ (z : ℕ). 2 * z) (sym (plain_units w q)))) in
        (root_reaches x w h q).1 (le_trans (mul-le-mul c c) (le_trans (le_of_eq (twice (units w)))
        (le_trans (more (units w * units w) (units x * 2 ^ 149) b) (le_of_eq (four (units x))))))
      where
        less : (p : ℕ) → p - 1 ≤ p
        less p = omega arith

        both : (a b : ℕ) → a ≤ b → a + b ≤ 2 * b
        both a b h = omega arith

        twice : (u : ℕ) → 2 * u * (2 * u) ≡ 4 * (u * u)
        twice u = omega arith

        more : (a b : ℕ) → a ≤ b → 4 * a ≤ 4 * b
        more a b h = omega arith

    pub stay_law : T (le x (mul binary64 w w)) → T (le (root_of x) w)
    stay_law l =
        let p = to_bits binary32 w in
        let a : units x * 2 ^ 298 ≤ units w * units w * 2 ^ 149 = le→fractions x (mul binary64 w w) (units x) (2 ^ 149)
        (units w * units w) (2 ^ 298) (pow_pos 149) (pow_pos 298) (plain_value x h) square_value l in
        let b : units x * 2 ^ 149 ≤ units w * units w = le_of_mul-le-mul_right
        (le_trans (le_of_eq (mul_assoc (units x) (2 ^ 149) (2 ^ 149))) a) (pow_pos 149) in
        let c : units x * 2 ^ 151 ≤ 2 * units w * (2 * units w) = le_trans (le_of_eq (sym (four (units x))))
        (le_trans (more (units x * 2 ^ 149) (units w * units w) b) (le_of_eq (sym (twice (units w))))) in
        let d : root_bits (units x) ≤ p = le_of_suc-le-suc (lt_of_not-le (λ (g : suc p ≤ root_bits (units x)).
        not-le_of_lt (past (units w) (val p) (gap p) (mid (suc p)) (plain_units w q) (next p) (gap_pos p))
        (le_trans ((reached_iff (units x) (suc p) (plain_under x h)).0 g) c))) in
        units→le (root_of x) w (root_plain x h) q (le_trans (le_of_eq (root_units x h))
        (le_trans (val_mono d) (le_of_eq (sym (plain_units w q)))))
      where
        twice : (u : ℕ) → 2 * u * (2 * u) ≡ 4 * (u * u)
        twice u = omega arith

        more : (a b : ℕ) → a ≤ b → 4 * a ≤ 4 * b
        more a b h = omega arith

        next : (p : ℕ) → mid (suc p) ≡ val p + (val p + gap p)
        next p = ap (λ (z : ℕ). val z + val (suc p)) (one_less p) ∙ ap (λ (z : ℕ). val p + z) (val_suc p)
          where
            one_less : (p : ℕ) → suc p - 1 ≡ p
            one_less p = omega arith

        past : (u v g m : ℕ) → u ≡ v → m ≡ v + (v + g) → 0 < g → 2 * u * (2 * u) < m * m
        past u v g m e k l =
            let s : suc (2 * u) ≤ m = omega arith in
            lt_of_lt_of_le (one_more_lem (2 * u)) (mul-le-mul s s)
          where
            one_more_lem : (a : ℕ) → a * a < suc a * suc a
            one_more_lem a = omega arith
