-- Each place under the tree that a walk visits is seen, or lies under a box that was passed over. By induction on the
-- tree: what is seen or passed over stays so. Assumes nothing.
use Rattle.std.proofs.Common.{ℕ, zero, suc, ◌+◌, ◌<◌, ◌≤◌, ◌⊎◌, List, [], ◌∷◌, ◌++◌, refl, inl, inr, arith}
use native.Mathlib.Decide.{dec_le}
use lib.Ieee.{Float}
use Rattle.vectors.specs.declared.Vec3.{Vec3}
use Rattle.words.specs.Lists.{list_from}
use Rattle.bvh_rules.specs.Rules.{Tree, leaf, node, weight, place}
use Rattle.bvh_search.specs.Walk.{Passed, Walk, more, skip, visit}
use Rattle.bvh_search.specs.Demand.{In}
use Rattle.bvh_search.proofs.Steps.{at_leaf, at_node, keeps}

-- ---- places in a list
pub in_left : {A : Type 0} (a : A) (xs ys : List A) → In a xs → In a (xs ++ ys)
in_left a [] ys h = absurd h
in_left a (x ∷ xs) ys (inl e) = inl e
in_left a (x ∷ xs) ys (inr h) = inr (in_left a xs ys h)

pub in_right : {A : Type 0} (a : A) (xs ys : List A) → In a ys → In a (xs ++ ys)
in_right a [] ys h = h
in_right a (x ∷ xs) ys h = inr (in_right a xs ys h)

pub in_split : {A : Type 0} (a : A) (xs ys : List A) → In a (xs ++ ys) → In a xs ⊎ In a ys
in_split a [] ys h = inr h
in_split a (x ∷ xs) ys (inl e) = inl (inl e)
in_split a (x ∷ xs) ys (inr h) = elim (in_split a xs ys h) [ inl k ↦ inl (inr k) | inr k ↦ inr k ]

in_from : (i s c : ℕ) → s ≤ i → i < s + c → In i (list_from place s c)
unfolding list_from
in_from i s zero h k = absurd (omega arith)
in_from i s (suc c) h k =
    elim (dec_le (suc s) i) [ yes g ↦ inr (in_from i (suc s) c g (omega arith)) | no g ↦ inl (omega arith) ]

module _ (o : List ℕ) (w : List ℕ) (f : List Float) (p : Vec3) where
  abbrev walk : Tree → ℕ → Walk → Walk
  walk = visit o w f p

  -- ---- what is seen or passed over stays so
  record Grows (σ σ' : Walk) : Type 0 where
    seen : (i : ℕ) → In i σ.seen → In i σ'.seen
    passed : (q : Passed) → In q σ.passed → In q σ'.passed

  grows : (t : Tree) (s : ℕ) (σ : Walk) → Grows σ (walk t s σ)
  grows t s σ =
      keeps o w f p (Grows σ)
      (λ t s τ _ g. record { seen = g.seen; passed = λ q h. inr (g.passed q h) })
      (λ s c τ g. record {
        seen = λ i h. in_left i τ.seen (list_from place s c)
            (g.seen i h);
        passed = g.passed;
      })
      (λ τ g. record { seen = g.seen; passed = g.passed })
      t s σ (record { seen = λ i h. h; passed = λ q h. h })

  -- ---- each place under the tree is seen, or lies under a box passed over
  pub record Under (passed : List Passed) (i : ℕ) : Type 0 where
    pub box : Passed
    pub was : In box passed
    pub from : box.first ≤ i
    pub to : i < box.first + weight box.under

  abbrev Met : ℕ → Walk → Type 0
  Met i σ = In i σ.seen ⊎ Under σ.passed i

  met_still : (i : ℕ) (t : Tree) (s : ℕ) (σ : Walk) → Met i σ → Met i (walk t s σ)
  met_still i t s σ (inl h) = inl ((grows t s σ).seen i h)
  met_still i t s σ (inr u) =
      inr (record { box = u.box; was = (grows t s σ).passed u.box u.was; from = u.from; to = u.to })

  met_skip : (i : ℕ) (t : Tree) (s : ℕ) (σ : Walk) → s ≤ i → i < s + weight t → Met i (skip o w f p t s σ)
  met_skip i t s σ h k = inr (record { box = record { under = t; first = s }; was = inl refl; from = h; to = k })

  pub met
      : (i : ℕ) (t : Tree) (s : ℕ) (σ : Walk) → s ≤ i → i < s + weight t
      → In i (visit o w f p t s σ).seen ⊎ Under (visit o w f p t s σ).passed i
  met i (leaf b c) s σ h k =
      at_leaf o w f p (Met i) s σ b c
      (λ _. met_skip i (leaf b c) s σ h k)
      (inl (in_right i σ.seen (list_from place s c) (in_from i s c h k)))
  met i (node b l r) s σ h k =
      let σ-l = walk l s (more o w f p σ) in
      let σ-r = walk r (s + weight l) (more o w f p σ) in
      at_node o w f p (Met i) s σ b l r
      (λ _. met_skip i (node b l r) s σ h k)
      (elim (dec_le (s + weight l) i) [
        | yes g ↦ met i r (s + weight l) σ-l g (omega arith)
        | no g ↦ met_still i r (s + weight l) σ-l (met i l s (more o w f p σ) h (omega arith))
      ])
      (elim (dec_le (s + weight l) i) [
        | yes g ↦ met_still i l s σ-r (met i r (s + weight l) (more o w f p σ) g (omega arith))
        | no g ↦ met i l s σ-r h (omega arith)
      ])
