-- How many nodes and levels a tree has for its places, that it ends within the table, and that at most one tree stands
-- at a place. By induction on the tree: a leaf is not empty. Assumes nothing.
use Prim.Native.Nat.{ℕ, ◌+◌, ◌*◌, ◌≤◌, ◌<◌}
use mathlib.Core.Path.{◌≡◌, sym, ◌∙◌, ap, ap₂, subst}
use mathlib.Core.List.{List}
use native.Mathlib.Omega.{arith}
use native.Mathlib.Decide.{dec_le}
use lib.ListN.{length}
use lib.Ieee.{Float}
use Rattle.sdf.specs.declared.Aabb.{Aabb}
use Rattle.bvh_rules.specs.declared.Node.{Node}
use Rattle.bvh_rules.specs.Nodes.{node_at, inner_node, leaf_node}
use Rattle.bvh_rules.specs.Rules.{Tree, leaf, node, size, weight, depth, Stands}
use Rattle.bvh_rules.proofs.Lists.{words_past}

module _ (w : List ℕ) (f : List Float) where
  pub weight_above : (at s : ℕ) (t : Tree) → Stands w f at s t → 0 < weight t
  weight_above at s (leaf b c) h = h.1
  weight_above at s (node b l r) h = omega (arith, weight_above (at + 1) s l h.1)

  pub size_weight : (at s : ℕ) (t : Tree) → Stands w f at s t → size t + 1 ≤ 2 * weight t
  size_weight at s (leaf b c) h = omega (arith, h.1)
  size_weight at s (node b l r) h =
      omega (arith, size_weight (at + 1) s l h.1, size_weight (at + 1 + size l) (s + weight l) r h.2)

  pub depth_weight : (at s : ℕ) (t : Tree) → Stands w f at s t → depth t < weight t
  depth_weight at s (leaf b c) h = h.1
  depth_weight at s (node b l r) h =
      omega (
        arith,
        depth_weight (at + 1) s l h.1,
        depth_weight (at + 1 + size l) (s + weight l) r h.2,
        weight_above (at + 1) s l h.1,
        weight_above (at + 1 + size l) (s + weight l) r h.2,
      )

  -- past the table every word is 0, but a leaf's count is not, nor an inner node's `right`
  here : length w ≡ 4599 → (at : ℕ) (v : Node) → node_at w f at ≡ v → 0 < v.count + v.right → at < 511
  here lw at v e h = go (dec_le 511 at)
    where
      go : Dec (511 ≤ at) → at < 511
      go (yes k) =
          let z = words_past w f (omega arith) at k in
          absurd (omega (arith, ap (λ (u : Node). u.count) e, ap (λ (u : Node). u.right) e, z.0, z.1))
      go (no k) = omega arith

  pub stands_fit : length w ≡ 4599 → (at s : ℕ) (t : Tree) → Stands w f at s t → at + size t ≤ 511
  stands_fit lw at s (leaf b c) h = omega (arith, here lw at (leaf_node b s c) h.0 (omega (arith, h.1)))
  stands_fit lw at s (node b l r) h = omega (arith, stands_fit lw (at + 1 + size l) (s + weight l) r h.2)

  pub stands_below : length w ≡ 4599 → (at s : ℕ) (t : Tree) → Stands w f at s t → at < 511
  stands_below lw at s (leaf b c) h = here lw at (leaf_node b s c) h.0 (omega (arith, h.1))
  stands_below lw at s (node b l r) h = here lw at (inner_node b (at + 1 + size l)) h.0 (omega arith)

  leaf_inner
      : (at s c k : ℕ) (b b' : Aabb) → 0 < c → node_at w f at ≡ leaf_node b s c
      → node_at w f at ≡ inner_node b' k → ⊥
  leaf_inner at s c k b b' h p q =
      let e : c ≡ 0 = ap (λ (u : Node). u.count) (sym p ∙ q) in
      omega arith

  pub stands_one : (at s : ℕ) (t u : Tree) → Stands w f at s t → Stands w f at s u → t ≡ u
  stands_one at s (leaf b c) (leaf b' c') h k =
      let e : leaf_node b s c ≡ leaf_node b' s c' = sym h.0 ∙ k.0 in
      ap₂ leaf (ap (λ (u : Node). u.hull) e) (ap (λ (u : Node). u.count) e)
  stands_one at s (leaf b c) (node b' l' r') h k =
      absurd (leaf_inner at s c (at + 1 + size l') b b' h.1 h.0 k.0)
  stands_one at s (node b l r) (leaf b' c') h k =
      absurd (leaf_inner at s c' (at + 1 + size l) b' b k.1 k.0 h.0)
  stands_one at s (node b l r) (node b' l' r') h k =
      let e : b ≡ b' = ap (λ (u : Node). u.hull) (sym h.0 ∙ k.0) in
      let g = stands_one (at + 1) s l l' h.1 k.1 in
      let k' : Stands w f (at + 1 + size l) (s + weight l) r' = subst
      (λ (x : Tree). Stands w f (at + 1 + size x) (s + weight x) r') (sym g) k.2 in
      let q = stands_one (at + 1 + size l) (s + weight l) r r' h.2 k' in
      λ i. node (e i) (g i) (q i)
