-- The tree of a range: it weighs what the range has, has fewer than twice as many nodes, no empty leaf, and its order
-- is the range's objects. And the words of a tree: nine to a node. By induction on the tree, and by the two ways of a
-- range. Assumes nothing.
use Rattle.std.proofs.Common.{◌≡◌, ℕ, ◌+◌, ◌-◌, ◌*◌, ◌<◌, ◌≤◌, max, Bool, true, false, ◌&&◌, ltb, List, length, sym, refl, arith, length-append, ltb-false, ltb-true, le-ltb, lt-ltb}
use mathlib.Core.List.Permᴰ
use Rattle.sdf.specs.declared.Aabb.{Aabb}
use Rattle.bvh_rules.specs.Rules.{Tree, leaf, node, size, weight, depth}
use Rattle.bvh_range.specs.Range.{span_of}
use Rattle.bvh_split.proofs.Perms.{Perm, perm_length, perm_halves}
use Rattle.bvh_split.proofs.Cuts.{cut_once}
use Rattle.bvh_build.specs.Build.{TreeOrder, leaf_of, joined, build_of}
use Rattle.bvh_build.specs.Encode.{encode, low_of}
use Rattle.bvh_build.proofs.Fuel.{stops_at, cut_at, left_part, right_part, left_some, right_some, parts_length}
use Rattle.bvh_build.proofs.Fuel.{build_each}

-- every leaf has a count above 0
abbrev pub Filled : Tree → Type 0
Filled (leaf b c) = 0 < c
Filled (node b l r) = Filled l × Filled r

pub record Shape (os : List ℕ) (m : TreeOrder) : Type 0 where
  pub weighs : weight m.tree ≡ length os
  pub sized : 0 < length os → size m.tree + 1 ≤ 2 * length os
  pub filled : 0 < length os → Filled m.tree
  pub once : Perm os m.order

module _ (bs : List Aabb) where
  leaf_shape : (os : List ℕ) → Shape os (leaf_of bs os)
  leaf_shape os = record { weighs = refl; sized = λ h. omega arith; filled = λ h. h; once = Permᴰ.refl os }

  node_shape
      : (os : List ℕ) → stops_at bs os ≡ false → (l r : TreeOrder) → Shape (left_part bs os) l
      → Shape (right_part bs os) r
      → Shape os (joined (span_of bs os).hull l r)
  node_shape os p l r a b =
      let n = parts_length bs os p in
      let x = left_some bs os p in
      let y = right_some bs os p in
      let u = a.sized x in
      let v = b.sized y in
      record {
        weighs = omega (arith, a.weighs, b.weighs);
        sized = λ h. omega arith;
        filled = λ h. (a.filled x, b.filled y);
        once =
            Permᴰ.trans (cut_once bs os (span_of bs os).centres)
            (perm_halves (cut_at bs os).mid (cut_at bs os).order a.once b.once);
      }

  pub build_shape : (os : List ℕ) → Shape os (build_of bs os)
  build_shape os = build_each bs Shape leaf_shape node_shape os

  pub order_length : (os : List ℕ) → length (build_of bs os).order ≡ length os
  order_length os = perm_length (build_shape os).once

-- ---- the words of a tree
pub encode_length : (t : Tree) (at s : ℕ) → length (encode t at s) ≡ 9 * size t
unfolding encode
encode_length (leaf b c) at s = refl
encode_length (node b l r) at s =
    let x = encode_length l (at + 1) s in
    let y = encode_length r (at + 1 + size l) (s + weight l) in
    omega (arith, length-append (encode l (at + 1) s) (encode r (at + 1 + size l) (s + weight l)))

-- ---- no node is as deep as k
both_below : (a b k : ℕ) → (ltb a (k - 1) && ltb b (k - 1)) ≡ ltb (1 + max a b) k
both_below a b k = go (ltb a (k - 1)) (ltb b (k - 1)) refl refl
  where
    go : (x y : Bool) → ltb a (k - 1) ≡ x → ltb b (k - 1) ≡ y → (x && y) ≡ ltb (1 + max a b) k
    go true true p q = sym (lt-ltb (1 + max a b) k (omega (arith, ltb-true a (k - 1) p, ltb-true b (k - 1) q)))
    go true false p q = sym (le-ltb (1 + max a b) k (omega (arith, ltb-false b (k - 1) q)))
    go false y p q = sym (le-ltb (1 + max a b) k (omega (arith, ltb-false a (k - 1) p)))

pub low_depth : (t : Tree) (k : ℕ) → low_of t k ≡ ltb (depth t) k
unfolding low_of
low_depth (leaf b c) k = refl
low_depth (node b l r) k = rw (low_depth l (k - 1), low_depth r (k - 1)) (both_below (depth l) (depth r) k)
