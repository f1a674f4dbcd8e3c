-- What "the lowest is sent" means of two numbers and of a list, 0 being none: by cases, by induction. Assumes nothing.
use Prim.Native.Nat.{ℕ, zero, suc, ◌≤◌, ◌<◌}
use mathlib.Core.Path.{◌≡◌, refl, sym, ◌∙◌, subst}
use mathlib.Core.Logic.{◌↔◌, ◌⊎◌, inl, inr, ⊎_elim}
use mathlib.Core.List.{List, [], ◌∷◌}
use native.Mathlib.Decide.{dec_le}
use native.Mathlib.Omega.{arith}
use lib.Dec.{eqb-suc-zero}
use Rattle.words.specs.Lists.{All}
use Rattle.words.proofs.Runs.{all_map}
use Rattle.refusals.specs.Refusals.{lower}
use Rattle.refusals.proofs.Lowest.{lower_zero, lower_none}
use Rattle.bvh_search.specs.Demand.{In}
use Rattle.promises.specs.Lowest.{lowest_in, NoLower, LowestIn}

-- none of two numbers applies and n is 0; or n is one that applies, and none that applies is lower
pub record Lowest (a b n : ℕ) : Type 0 where
  pub none : (n ≡ 0) ↔ ((a ≡ 0) × (b ≡ 0))
  pub one : (n ≡ a) ⊎ (n ≡ b)
  pub first : 0 < a → n ≤ a
  pub second : 0 < b → n ≤ b

pub lower_least : (a b : ℕ) → Lowest a b (lower a b)
unfolding lower
lower_least zero b =
    record { none = lower_zero 0 b; one = inr refl; first = λ h. absurd (omega arith); second = λ _. omega arith }
lower_least (suc a) zero =
    let e = lower_none (suc a) in
    record { none = lower_zero (suc a) 0; one = inl e; first = λ _. omega arith; second = λ h. absurd (omega arith) }
lower_least (suc a) (suc b) =
    record {
      none = lower_zero (suc a) (suc b);
      one = rw (eqb-suc-zero a, eqb-suc-zero b) (elim (dec_le a b) [
        | yes h ↦ inl (omega arith)
        | no h ↦ inr (omega arith)
      ]);
      first = λ _. rw (eqb-suc-zero a, eqb-suc-zero b) (omega arith);
      second = λ _. rw (eqb-suc-zero a, eqb-suc-zero b) (omega arith);
    }

-- and no other number is the lowest
cross : (a b n m : ℕ) → Lowest a b n → Lowest a b m → n ≡ a → m ≡ b → n ≡ m
cross zero b n m x y e g = let z = (x.none.0 e).1 in omega arith
cross (suc a) zero n m x y e g = let z = (y.none.0 g).0 in omega arith
cross (suc a) (suc b) n m x y e g = omega (arith, x.second (omega arith), y.first (omega arith))

pub lowest_only : {a b n m : ℕ} → Lowest a b n → Lowest a b m → n ≡ m
lowest_only {a} {b} {n} {m} x y =
    ⊎_elim
    (λ e. ⊎_elim (λ g. e ∙ sym g) (λ g. cross a b n m x y e g) y.one)
    (λ e. ⊎_elim (λ g. sym (cross a b m n y x g e)) (λ g. e ∙ sym g) y.one)
    x.one

-- ---- a list of numbers
all_in : (P : ℕ → Type 0) (n : ℕ) (ns : List ℕ) → All P ns → In n ns → P n
all_in P n [] a i = absurd i
all_in P n (m ∷ ns) a i = ⊎_elim (λ e. subst P (sym e) a.0) (λ j. all_in P n ns a.1 j) i

pub lowest_in_lem : (ns : List ℕ) → LowestIn ns (lowest_in ns)
unfolding lowest_in
lowest_in_lem [] = record { none = (λ _. tt, λ _. refl); one = λ h. absurd (omega arith); least = tt }
lowest_in_lem (n ∷ ns) =
    let rest : ℕ = lowest_in ns in
    let ih = lowest_in_lem ns in
    let l = lower_least n rest in
    record {
      none = (
        λ e. let z = l.none.0 e in (z.0, ih.none.0 z.1),
        λ z. l.none.1 (z.0, ih.none.1 z.1),
      );
      one = λ h. ⊎_elim inl (λ e. inr (subst (λ (m : ℕ). In m ns) (sym e) (ih.one (omega arith)))) l.one;
      least = (
        l.first,
        elim (dec_le 1 rest) [
          | yes h ↦ all_map (λ (m : ℕ). 0 < m → rest ≤ m) (λ (m : ℕ). 0 < m → lower n rest ≤ m)
              (λ m g q. omega (arith, g q, l.second h)) ns ih.least
          | no h ↦ all_map (λ (m : ℕ). m ≡ 0) (λ (m : ℕ). 0 < m → lower n rest ≤ m)
              (λ m z q. absurd (omega arith)) ns (ih.none.0 (omega arith))
        ],
      );
    }

-- and no other number is
not_above : (ns : List ℕ) {n m : ℕ} → LowestIn ns n → LowestIn ns m → n ≤ m
not_above ns {n} {m} x y =
    elim (dec_le 1 m) [
      | yes h ↦ all_in (λ (k : ℕ). 0 < k → n ≤ k) m ns x.least (y.one h) h
      | no h ↦ let z = x.none.1 (y.none.0 (omega arith)) in omega arith
    ]

pub lowest_in_only : (ns : List ℕ) {n m : ℕ} → LowestIn ns n → LowestIn ns m → n ≡ m
lowest_in_only ns x y = omega (arith, not_above ns x y, not_above ns y x)

-- a number is sent exactly when it applies and no lower one does
pub given_exactly : (ns : List ℕ) (k : ℕ) → 0 < k → (lowest_in ns ≡ k) ↔ (In k ns × NoLower ns k)
given_exactly ns k h = (
  λ e. let l = subst (LowestIn ns) e (lowest_in_lem ns) in (l.one h, l.least),
  λ p.
      lowest_in_only ns (lowest_in_lem ns)
      (record {
        none = (λ e. absurd (omega arith), λ z. all_in (λ (m : ℕ). m ≡ 0) k ns z p.0);
        one = λ _. p.0;
        least = p.1;
      }),
)
