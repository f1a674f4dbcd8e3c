-- A guess at the root that is tested: r is the root of x where x is at least the bar of r and below that of the next
-- f32. By `bar_law`. Assumes nothing.
use mathlib.Core.Path.{◌≡◌, sym, ap, ◌∙◌, subst}
use mathlib.Core.Bool.{true, false}
use Prim.Native.Nat.{ℕ, ◌+◌, ◌≤◌, ◌<◌}
use native.Mathlib.Nat.{le_trans, le_of_eq, le_antisymm, le_of_suc-le-suc, lt_of_not-le}
use native.Mathlib.Numerals.{add-one}
use lib.Dec.{T}
use lib.Ieee.{Float, binary32, of_bits, to_bits, le}
use Rattle.root.specs.Root.{units, plain, root_bits, root_of}
use Rattle.root.specs.Inside.Bar.{bar_of}
use Rattle.root.proofs.Patterns.{val_mono, le_of_val}
use Rattle.root.proofs.Laws.{bits_plain, bits_units, plain_bits, plain_units, root_plain, root_units, root_opened}
use Rattle.root.proofs.Order.{le→units, units→le}
use Rattle.root.proofs.BarLaw.{bar_law}

module _ (x r : Float) (h : T (plain x)) (q : T (plain r)) where
  low : T (le (bar_of r) x) → to_bits binary32 r ≤ root_bits (units x)
  low l =
      le_of_val (to_bits binary32 r) (root_bits (units x))
      (le_trans (le_of_eq (sym (plain_units r q)))
      (le_trans (le→units r (root_of x) q (root_plain x h) ((bar_law r x q h).1 l)) (le_of_eq (root_units x h))))

  high
      : to_bits binary32 r + 1 < 2139095040 → (T (le (bar_of (of_bits binary32 (to_bits binary32 r + 1))) x) → ⊥)
      → root_bits (units x) < to_bits binary32 r + 1
  high k n =
      let s = to_bits binary32 r + 1 in
      lt_of_not-le (λ (g : s ≤ root_bits (units x)). n ((bar_law (of_bits binary32 s) x (bits_plain s k) h).0
      (units→le (of_bits binary32 s) (root_of x) (bits_plain s k) (root_plain x h)
      (le_trans (le_of_eq (bits_units s k)) (le_trans (val_mono g) (le_of_eq (sym (root_units x h))))))))

  pub tested
      : to_bits binary32 r + 1 < 2139095040 → le (bar_of r) x ≡ true
      → le (bar_of (of_bits binary32 (to_bits binary32 r + 1))) x ≡ false → r ≡ root_of x
  tested k a b =
      let e : to_bits binary32 r ≡ root_bits (units x) = le_antisymm (low (subst T (sym a) tt))
      (le_of_suc-le-suc (subst (λ (z : ℕ). root_bits (units x) < z) (add-one (to_bits binary32 r))
      (high k (λ t. subst T b t)))) in
      sym (plain_bits r q) ∙ ap (of_bits binary32) e ∙ sym (root_opened x h)
