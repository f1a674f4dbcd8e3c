-- Of n numbers below n, no two alike, none is left out; a walk sees no place twice: by induction. Assumes nothing.
use Prim.Native.Nat.{ℕ, zero, suc, ◌+◌, ◌≤◌, ◌<◌}
use mathlib.Core.Path.{◌≡◌, refl, sym, ◌∙◌}
use mathlib.Core.Logic.{◌⊎◌, inl, inr, ⊎_elim}
use mathlib.Core.Bool.{cond}
use mathlib.Core.List.{List, [], ◌∷◌, ◌++◌, map}
use native.Mathlib.Decide.{dec_le, ℕ_discrete}
use native.Mathlib.Omega.{arith}
use lib.Dec.{eqb}
use lib.Ieee.{Float}
use borrow.Author.Tests.{eq-eqb, ne_eqb}
use Rattle.vectors.specs.declared.Vec3.{Vec3}
use Rattle.words.specs.Lists.{list_from}
use Rattle.plan.specs.declared.DistHit.{DistHit}
use Rattle.plan.specs.Records.{word_of}
use Rattle.bvh_rules.specs.Rules.{Tree, leaf, node, weight, place, Once}
use Rattle.bvh_search.specs.Walk.{Walk, walk_from, more, visit}
use Rattle.bvh_search.specs.Demand.{In}
use Rattle.bvh_search.proofs.Steps.{at_leaf, at_node}
use Rattle.bvh_search.proofs.Covers.{in_split}
use Rattle.promises.specs.Demand3.{Distinct}

-- ---- n numbers below n, no two alike, are all of them
record Into (f : ℕ → ℕ) (n : ℕ) : Type 0 where
  below : (i : ℕ) → i < n → f i < n
  apart : (i j : ℕ) → i < j → j < n → f i ≡ f j → ⊥

-- what goes to m goes to v instead
unfoldable instead : (ℕ → ℕ) → ℕ → ℕ → ℕ → ℕ
instead f m v i = cond (eqb (f i) m) v (f i)

module _ (f : ℕ → ℕ) (m : ℕ) where
  hit : (i : ℕ) → f i ≡ m → instead f m (f m) i ≡ f m
  unfolding instead
  hit i e = rw (eq-eqb (f i) m e)

  miss : (i : ℕ) → (f i ≡ m → ⊥) → instead f m (f m) i ≡ f i
  unfolding instead
  miss i e = rw (ne_eqb (f i) m e)

  one_less : Into f (suc m) → Into (instead f m (f m)) m
  one_less h =
      record {
        below = λ i l. elim (ℕ_discrete (f i) m) [
          | yes e ↦
              let other : f m ≡ m → ⊥ = λ q. h.apart i m l (omega arith) (e ∙ sym q) in
              omega (arith, hit i e, h.below m (omega arith))
          | no e ↦ omega (arith, miss i e, h.below i (omega arith))
        ];
        apart = λ i j l k e. elim (ℕ_discrete (f i) m) [
          | yes p ↦ elim (ℕ_discrete (f j) m) [
            | yes q ↦ h.apart i j l (omega arith) (p ∙ sym q)
            | no q ↦ h.apart j m k (omega arith) (sym (miss j q) ∙ sym e ∙ hit i p)
          ]
          | no p ↦ elim (ℕ_discrete (f j) m) [
            | yes q ↦ h.apart i m (omega arith) (omega arith) (sym (miss i p) ∙ e ∙ hit j q)
            | no q ↦ h.apart i j l (omega arith) (sym (miss i p) ∙ e ∙ miss j q)
          ]
        ];
      }

onto : (n : ℕ) (f : ℕ → ℕ) → Into f n → (k : ℕ) → k < n → (i : ℕ) × ((i < n) × (f i ≡ k))
onto zero f h k l = absurd (omega arith)
onto (suc m) f h k l =
    elim (ℕ_discrete (f m) k) [
      | yes e ↦ (m, (omega arith, e))
      | no e ↦ elim (ℕ_discrete k m) [
        | yes last ↦
            let below = h.below m (omega arith) in
            let p = onto m (instead f m (f m)) (one_less f m h) (f m) (omega arith) in
            elim (ℕ_discrete (f p.0) m) [
              | yes q ↦ (p.0, (omega (arith, p.1.0), q ∙ sym last))
              | no q ↦ absurd (h.apart p.0 m p.1.0 (omega arith) (sym (miss f m p.0 q) ∙ p.1.1))
            ]
        | no ne ↦
            let p = onto m (instead f m (f m)) (one_less f m h) k (omega arith) in
            elim (ℕ_discrete (f p.0) m) [
              | yes q ↦ absurd (e (sym (hit f m p.0 q) ∙ p.1.1))
              | no q ↦ (p.0, (omega (arith, p.1.0), sym (miss f m p.0 q) ∙ p.1.1))
            ]
      ]
    ]

pub order_onto
    : (o : List ℕ) (n : ℕ) → Once o n → (k : ℕ) → k < n → (i : ℕ) × ((i < n) × (word_of o i ≡ k))
order_onto o n c = onto n (word_of o) (record { below = c.below; apart = c.apart })

-- ---- lists of places, none twice
IsDistinct-append
    : (xs ys : List ℕ)
    → Distinct xs
    → Distinct ys
    → ((i : ℕ) → In i xs → In i ys → ⊥)
    → Distinct (xs ++ ys)
IsDistinct-append [] ys p q h = q
IsDistinct-append (x ∷ xs) ys p q h = (
  λ k. ⊎_elim p.0 (h x (inl refl)) (in_split x xs ys k),
  IsDistinct-append xs ys p.1 q (λ i a. h i (inr a)),
)

in_from_to : (i s c : ℕ) → In i (list_from place s c) → (s ≤ i) × (i < s + c)
unfolding list_from
in_from_to i s zero h = absurd h
in_from_to i s (suc c) (inl e) = (omega arith, omega arith)
in_from_to i s (suc c) (inr h) = let p = in_from_to i (suc s) c h in (omega arith, omega arith)

distinct_from : (s c : ℕ) → Distinct (list_from place s c)
unfolding list_from
distinct_from s zero = tt
distinct_from s (suc c) = (λ h. omega (arith, in_from_to s (suc s) c h), distinct_from (suc s) c)

in_map : (f : ℕ → ℕ) (xs : List ℕ) (y : ℕ) → In y (map f xs) → (i : ℕ) × (In i xs × (y ≡ f i))
in_map f [] y h = absurd h
in_map f (x ∷ xs) y (inl e) = (x, (inl refl, e))
in_map f (x ∷ xs) y (inr h) = let p = in_map f xs y h in (p.0, (inr p.1.0, p.1.1))

distinct_map
    : (f : ℕ → ℕ) (xs : List ℕ)
    → Distinct xs
    → ((i j : ℕ) → In i xs → In j xs → f i ≡ f j → i ≡ j)
    → Distinct (map f xs)
distinct_map f [] d h = tt
distinct_map f (x ∷ xs) d h = (
  λ k.
      let p = in_map f xs (f x) k in
      d.0 (rw (h x p.0 (inl refl) (inr p.1.0) p.1.1) p.1.0),
  distinct_map f xs d.1 (λ i j a b. h i j (inr a) (inr b)),
)

-- ---- from the places xs to the places ys: none twice, and none new but from lo up to hi
record Sees (lo hi : ℕ) (xs ys : List ℕ) : Type 0 where
  distinct : Distinct ys
  only : (i : ℕ) → In i ys → In i xs ⊎ ((lo ≤ i) × (i < hi))

abbrev Fresh : ℕ → ℕ → List ℕ → Type 0
Fresh lo hi xs = (i : ℕ) → In i xs → lo ≤ i → i < hi → ⊥

-- two parts of lo up to hi, one after the other
module _ (lo hi a b c d : ℕ) (xs ys : List ℕ) (g : Sees a b xs ys)
    (p : (lo ≤ a) × (b ≤ hi)) (q : (lo ≤ c) × (d ≤ hi))
  where
    fresh_after : Fresh lo hi xs → (b ≤ c) ⊎ (d ≤ a) → Fresh c d ys
    fresh_after new apart i at h k =
        ⊎_elim (λ old. new i old (omega arith) (omega arith))
        (λ r. ⊎_elim (λ e. omega arith) (λ e. omega arith) apart)
        (g.only i at)

    sees_both : (zs : List ℕ) → Sees c d ys zs → Sees lo hi xs zs
    sees_both zs h =
        record {
          distinct = h.distinct;
          only = λ i at.
              ⊎_elim
              (λ old. ⊎_elim inl (λ r. inr (omega arith, omega arith)) (g.only i old))
              (λ r. inr (omega arith, omega arith))
              (h.only i at);
        }

module _ (o : List ℕ) (w : List ℕ) (f : List Float) (p : Vec3) where
  abbrev walk : Tree → ℕ → Walk → Walk
  walk = visit o w f p

  sees
      : (t : Tree) (s : ℕ) (σ : Walk)
      → Distinct σ.seen
      → Fresh s (s + weight t) σ.seen
      → Sees s (s + weight t) σ.seen (walk t s σ).seen
  sees (leaf b c) s σ d new =
      at_leaf o w f p (λ τ. Sees s (s + c) σ.seen τ.seen) s σ b c
      (λ _. record { distinct = d; only = λ i at. inl at })
      (record {
        distinct =
            IsDistinct-append σ.seen (list_from place s c) d (distinct_from s c)
            (λ i a b. let q = in_from_to i s c b in new i a q.0 q.1);
        only = λ i at. ⊎_elim inl (λ b. inr (in_from_to i s c b)) (in_split i σ.seen (list_from place s c) at);
      })
  sees (node b l r) s σ d new =
      let σ' = more o w f p σ in
      let m : ℕ = s + weight l in
      let n : ℕ = m + weight r in
      let e : ℕ = s + (weight l + weight r) in
      let σ-l = walk l s σ' in
      let σ-r = walk r m σ' in
      let on-l : (s ≤ s) × (m ≤ e) = (omega arith, omega arith) in
      let on-r : (s ≤ m) × (n ≤ e) = (omega arith, omega arith) in
      let left = sees l s σ' d (λ i at h k. new i at h (omega arith)) in
      let right = sees r m σ' d (λ i at h k. new i at (omega arith) (omega arith)) in
      let then-r = sees r m σ-l left.distinct
      (fresh_after s e s m m n σ.seen σ-l.seen left on-l on-r new (inl (omega arith))) in
      let then-l = sees l s σ-r right.distinct
      (fresh_after s e m n s m σ.seen σ-r.seen right on-r on-l new (inr (omega arith))) in
      at_node o w f p (λ τ. Sees s e σ.seen τ.seen) s σ b l r
      (λ _. record { distinct = d; only = λ i at. inl at })
      (sees_both s e s m m n σ.seen σ-l.seen left on-l on-r (walk r m σ-l).seen then-r)
      (sees_both s e m n s m σ.seen σ-r.seen right on-r on-l (walk l s σ-r).seen then-l)

  -- a walk of a tree from its first place: none of its objects is evaluated twice
  pub evaluates_once
      : (t : Tree) (bound : DistHit)
      → Once o (weight t)
      → Distinct (map (word_of o) (visit o w f p t 0 (walk_from bound)).seen)
  evaluates_once t bound c =
      let σ = walk_from bound in
      let g = sees t 0 σ tt (λ i at. absurd at) in
      let under : (i : ℕ) → In i (walk t 0 σ).seen → i < weight t
      = λ i at. ⊎_elim (λ old. absurd old) (λ q. omega arith) (g.only i at) in
      distinct_map (word_of o) (walk t 0 σ).seen g.distinct
      (λ i j a b q.
      elim (dec_le (suc i) j) [
        | yes l ↦ absurd (c.apart i j l (under j b) q)
        | no l ↦ elim (dec_le (suc j) i) [
          | yes k ↦ absurd (c.apart j i k (under i a) (sym q))
          | no k ↦ omega arith
        ]
      ])
