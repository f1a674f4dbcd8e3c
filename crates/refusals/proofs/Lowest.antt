-- Which tests get the number 0: the lower of two, the lowest of a list, is 0 exactly when each is; and one more at the
-- end of a list is one more `lower`. By cases and by induction on the list. Assumes nothing.
use Prim.Native.Nat.{ℕ, zero, suc, ◌+◌, min}
use mathlib.Core.Path.{◌≡◌, refl, sym, ◌∙◌, ap}
use mathlib.Core.Logic.{◌↔◌}
use mathlib.Core.Bool.{Bool, true, false, cond, false≢true}
use mathlib.Core.List.{List, [], ◌∷◌, ◌++◌}
use native.Mathlib.Numerals.{add-one}
use native.Mathlib.Omega.{arith}
use lib.Dec.{T, eqb-suc-zero}
use Rattle.words.specs.Lists.{list_from, All}
use Rattle.words.proofs.Runs.{from_snoc, from_same}
use Rattle.refusals.specs.Refusals.{unless, lower, lowest_of, lowest_in}

pub told : (b : Bool) → T b ↔ (b ≡ true)
told true = (λ _. refl, λ _. tt)
told false = (λ t. absurd t, λ e. absurd (false≢true e))

pub cond_zero : (b : Bool) (a n : ℕ) → (cond b a (suc n) ≡ 0) ↔ ((b ≡ true) × (a ≡ 0))
cond_zero true a n = (λ e. (refl, e), λ p. p.1)
cond_zero false a n = (λ e. absurd (omega arith), λ p. absurd (false≢true p.0))

pub unless_zero : (n : ℕ) (b : Bool) → (unless (suc n) b ≡ 0) ↔ (b ≡ true)
unfolding unless
unless_zero n true = (λ _. refl, λ _. refl)
unless_zero n false = (λ e. absurd (omega arith), λ e. absurd (false≢true e))

pub lower_zero : (a b : ℕ) → (lower a b ≡ 0) ↔ ((a ≡ 0) × (b ≡ 0))
unfolding lower
lower_zero zero b = (λ e. (refl, e), λ p. p.1)
lower_zero (suc a) zero = rw (eqb-suc-zero a) (omega arith)
lower_zero (suc a) (suc b) = rw (eqb-suc-zero a, eqb-suc-zero b) (omega arith)

-- ---- 0 is none
lower_first : (b : ℕ) → lower 0 b ≡ b
unfolding lower
lower_first b = refl

pub lower_none : (a : ℕ) → lower a 0 ≡ a
unfolding lower
lower_none zero = refl
lower_none (suc a) = rw (eqb-suc-zero a)

lower_some : (a b : ℕ) → lower (suc a) (suc b) ≡ suc (min a b)
unfolding lower
lower_some a b = rw (eqb-suc-zero a, eqb-suc-zero b) (omega arith)

pub lower_assoc : (a b c : ℕ) → lower a (lower b c) ≡ lower (lower a b) c
lower_assoc zero b c = rw (lower_first (lower b c), lower_first b)
lower_assoc (suc a) zero c = rw (lower_first c, lower_none (suc a))
lower_assoc (suc a) (suc b) zero = rw (lower_none (suc b), lower_some a b, lower_none (suc (min a b)))
lower_assoc (suc a) (suc b) (suc c) =
    rw (lower_some b c, lower_some a b, lower_some a (min b c), lower_some (min a b) c) (ap suc (omega arith))

-- ---- the lowest of a list
module _ {A : Type 0} (number : A → ℕ) where
  pub lowest_snoc
      : (xs : List A) (x : A) → lowest_of number (xs ++ (x ∷ [])) ≡ lower (lowest_of number xs) (number x)
  unfolding lowest_of
  lowest_snoc [] x = lower_none (number x) ∙ sym (lower_first (number x))
  lowest_snoc (y ∷ xs) x = rw (lowest_snoc xs x) (lower_assoc (number y) (lowest_of number xs) (number x))

  pub lowest_exact
      : (P : A → Type 0) → ((x : A) → (number x ≡ 0) ↔ P x) → (xs : List A)
      → (lowest_of number xs ≡ 0) ↔ All P xs
  unfolding lowest_of
  lowest_exact P one [] = (λ _. tt, λ _. refl)
  lowest_exact P one (x ∷ xs) =
      let q = lower_zero (number x) (lowest_of number xs) in
      let ih = lowest_exact P one xs in (
        λ e. let p = q.0 e in ((one x).0 p.0, ih.0 p.1),
        λ p. q.1 ((one x).1 p.0, ih.1 p.1),
      )

-- a loop over a list of a function of the index: at its start, and at a turn
module _ {A : Type 0} (number : A → ℕ) (g : ℕ → A) (a : ℕ) where
  pub lowest_start : 0 ≡ lowest_of number (list_from g a 0)
  unfolding lowest_of list_from
  lowest_start = refl

  pub lowest_more
      : (j : ℕ) → lowest_of number (list_from g a (j + 1)) ≡ lower (lowest_of number (list_from g a j))
      (number (g (a + j)))
  lowest_more j = rw (add-one, from_snoc g a j, lowest_snoc number)

-- the lowest of a list of a function of the index is that of the indices
module _ {A : Type 0} (number : A → ℕ) where
  at_each : (g : ℕ → A) (a n : ℕ) → lowest_of (λ i. number (g i)) (list_from (λ i. i) a n) ≡ lowest_of number (list_from g a n)
  unfolding lowest_of list_from
  at_each g a zero = refl
  at_each g a (suc n) = ap (lower (number (g a))) (at_each g (suc a) n)

  pub lowest_at : (g : ℕ → A) (a n : ℕ) → lowest_in (λ i. number (g (a + i))) n ≡ lowest_of number (list_from g a n)
  lowest_at g a n = at_each (λ i. g (a + i)) 0 n ∙ ap (lowest_of number) (from_same (λ i. g (a + i)) g 0 a n (λ k h. ap g (omega arith)))
