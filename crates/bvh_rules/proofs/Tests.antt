-- What the tests of one node say, each exactly: its box, its objects, its words, and which kind of node it is. By the
-- cases of each test. Assumes nothing.
use Prim.Native.Nat.{ℕ, zero, suc, ◌+◌, ◌-◌, ◌≤◌, ◌<◌}
use mathlib.Core.Path.{◌≡◌, refl, sym, ◌∙◌, ap, subst}
use mathlib.Core.Logic.{⊎_elim}
use mathlib.Core.Bool.{Bool, true, false, cond, ◌&&◌, and-eq-true_iff}
use mathlib.Core.List.{List}
use native.Mathlib.Nat.{eq-or-lt_of_le}
use native.Mathlib.Numerals.{add-one}
use native.Mathlib.Omega.{arith}
use denote.Floats.{passes, is_true}
use lib.Dec.{T, eqb, ltb, leb}
use lib.ListN.{length}
use borrow.Author.Tests.{leb-true, eqb-true, eqb-false, lt-ltb, le-leb, eq-eqb}
use Rattle.std.specs.Prelude.{Option, Some, None}
use Rattle.sdf.specs.declared.Aabb.{Aabb}
use Rattle.plan.specs.Records.{word_of}
use Rattle.bvh_boxes.specs.Boxes.{finite_box, inside, box_at}
use Rattle.bvh_rules.specs.declared.Node.{Node}
use Rattle.bvh_rules.specs.declared.Kind.{Kind}
use Rattle.bvh_rules.specs.declared.Kind.TheVariants.{Leaf, Inner}
use Rattle.bvh_rules.specs.Nodes.{inner_node, leaf_node}
use Rattle.bvh_rules.specs.Inside.Steps.{held_at, holds_all, leaf_words, leaf_ok, hull_ok, kind_of}
use Rattle.bvh_rules.proofs.Lists.{holds_none, holds_more}
use Rattle.bvh_rules.proofs.Level.{cond_true}

-- ---- its box
pub hull_from_lem
    : (b outer : Aabb) (at : ℕ) → at < 511 → T (finite_box b) → T (inside b outer) → hull_ok b outer at ≡ true
unfolding hull_ok
hull_from_lem b outer at h g k = rw (lt-ltb at 511 h, is_true (finite_box b) g, is_true (inside b outer) k)

pub hull_to : (b outer : Aabb) (at : ℕ) → hull_ok b outer at ≡ true → T (finite_box b) × T (inside b outer)
unfolding hull_ok
hull_to b outer at e =
    let p = (and-eq-true_iff (ltb at 511) (finite_box b && inside b outer)).0 e in
    let q = (and-eq-true_iff (finite_box b) (inside b outer)).0 p.1 in
    (passes (finite_box b) q.0, passes (inside b outer) q.1)

-- ---- its objects
module _ (o : List ℕ) (bs : List Aabb) (b : Aabb) (s : ℕ) where
  abbrev pub Held : ℕ → Type 0
  Held c = (i : ℕ) → s ≤ i → i < s + c → T (inside (box_at bs (word_of o i)) b)

  holds_suc : (c : ℕ) → holds_all o bs b s (suc c) ≡ holds_all o bs b s c && held_at o bs b (s + c)
  holds_suc c = rw (sym (add-one c), holds_more)

  pub holds_to : (c : ℕ) → holds_all o bs b s c ≡ true → Held c
  unfolding held_at
  holds_to zero e i g h = absurd (omega arith)
  holds_to (suc c) e i g h =
      let p = (and-eq-true_iff (holds_all o bs b s c) (held_at o bs b (s + c))).0 (sym (holds_suc c) ∙ e) in
      let k : i ≤ s + c = omega arith in
      ⊎_elim (λ q. subst (λ (j : ℕ). T (inside (box_at bs (word_of o j)) b)) (sym q)
      (passes (held_at o bs b (s + c)) p.1)) (λ q. holds_to c p.0 i g q) (eq-or-lt_of_le k)

  pub holds_from : (c : ℕ) → Held c → holds_all o bs b s c ≡ true
  unfolding held_at
  holds_from zero h = sym (holds_none o bs b s)
  holds_from (suc c) h =
      let p = holds_from c (λ i g k. h i g (omega arith)) in
      let q = is_true (held_at o bs b (s + c)) (h (s + c) (omega arith) (omega arith)) in
      holds_suc c ∙ (and-eq-true_iff (holds_all o bs b s c) (held_at o bs b (s + c))).1 (p, q)

  pub holds_not : (c j : ℕ) → j < c → held_at o bs b (s + j) ≡ false → holds_all o bs b s c ≡ false
  unfolding held_at
  holds_not c j h e = go (holds_all o bs b s c) refl
    where
      go : (x : Bool) → holds_all o bs b s c ≡ x → holds_all o bs b s c ≡ false
      go false q = q
      go true q = absurd (subst T e (holds_to c q (s + j) (omega arith) (omega arith)))

-- ---- a leaf's words
pub record IsLeaf (o : List ℕ) (bs : List Aabb) (v : Node) (s : ℕ) : Type 0 where
  pub right : v.right ≡ 0
  pub start : v.start ≡ s
  pub few : s + v.count ≤ length bs
  pub held : Held o bs v.hull s v.count

module _ (o : List ℕ) (bs : List Aabb) (v : Node) (s : ℕ) where
  pub leaf_to : leaf_ok o bs v s ≡ true → IsLeaf o bs v s
  unfolding leaf_ok leaf_words
  leaf_to e =
      let n : ℕ = length bs in
      let p = cond_true (leaf_words v n s) (holds_all o bs v.hull s v.count) e in
      let q = (and-eq-true_iff (eqb v.right 0 && eqb v.start s) (leb s n && leb v.count (n - s))).0 p.0 in
      let x = (and-eq-true_iff (eqb v.right 0) (eqb v.start s)).0 q.0 in
      let y = (and-eq-true_iff (leb s n) (leb v.count (n - s))).0 q.1 in
      record {
        right = eqb-true v.right 0 x.0;
        start = eqb-true v.start s x.1;
        few = omega (arith, leb-true s n y.0, leb-true v.count (n - s) y.1);
        held = holds_to o bs v.hull s v.count p.1;
      }

  pub leaf_from : IsLeaf o bs v s → leaf_ok o bs v s ≡ true
  unfolding leaf_ok leaf_words
  leaf_from p =
      let few : s + v.count ≤ length bs = p.few in
      let a = le-leb s (length bs) (omega arith) in
      let b = le-leb v.count (length bs - s) (omega arith) in
      simp (
        eq-eqb v.right 0 p.right,
        eq-eqb v.start s p.start,
        a,
        b,
        holds_from o bs v.hull s v.count p.held,
      )

-- ---- which kind it is
abbrev tag : Option Kind → ℕ
tag None = 0
tag (Some (Leaf a b)) = 1
tag (Some (Inner a b)) = 2

apart : (a b : Option Kind) → a ≡ b → (tag a ≡ tag b → ⊥) → ⊥
apart a b e h = h (ap tag e)

is_Is_leaf
    : (h z s l : Bool) (a b c d x y : ℕ)
    → cond h (cond z (cond s (Some (Inner a b)) None) (cond l (Some (Leaf c d)) None)) None ≡ Some (Leaf x y)
    → (h ≡ true) × (z ≡ false) × (l ≡ true) × (c ≡ x) × (d ≡ y)
is_Is_leaf true true true l a b c d x y e = absurd (apart (Some (Inner a b)) (Some (Leaf x y)) e (omega arith))
is_Is_leaf true true false l a b c d x y e = absurd (apart None (Some (Leaf x y)) e (omega arith))
is_Is_leaf true false s true a b c d x y e = let g : Some (Leaf c d) ≡ Some (Leaf x y) = e in (refl, refl, refl, cc, cc)
is_Is_leaf true false s false a b c d x y e = absurd (apart None (Some (Leaf x y)) e (omega arith))
is_Is_leaf false z s l a b c d x y e = absurd (apart None (Some (Leaf x y)) e (omega arith))

is_inner
    : (h z s l : Bool) (a b c d x y : ℕ)
    → cond h (cond z (cond s (Some (Inner a b)) None) (cond l (Some (Leaf c d)) None)) None ≡ Some (Inner x y)
    → (h ≡ true) × (z ≡ true) × (s ≡ true) × (a ≡ x) × (b ≡ y)
is_inner true true true l a b c d x y e = let g : Some (Inner a b) ≡ Some (Inner x y) = e in (refl, refl, refl, cc, cc)
is_inner true true false l a b c d x y e = absurd (apart None (Some (Inner x y)) e (omega arith))
is_inner true false s true a b c d x y e = absurd (apart (Some (Leaf c d)) (Some (Inner x y)) e (omega arith))
is_inner true false s false a b c d x y e = absurd (apart None (Some (Inner x y)) e (omega arith))
is_inner false z s l a b c d x y e = absurd (apart None (Some (Inner x y)) e (omega arith))

pub record KindLeaf (o : List ℕ) (bs : List Aabb) (v : Node) (outer : Aabb) (at s x y : ℕ) : Type 0 where
  pub good : hull_ok v.hull outer at ≡ true
  pub stands : v ≡ leaf_node v.hull s v.count
  pub above : 0 < v.count
  pub leafs : IsLeaf o bs v s
  pub next : at + 1 ≡ x
  pub last : s + v.count ≡ y

pub record KindInner (v : Node) (outer : Aabb) (at x y : ℕ) : Type 0 where
  pub good : hull_ok v.hull outer at ≡ true
  pub stands : v ≡ inner_node v.hull y
  pub next : at + 1 ≡ x

module _ (o : List ℕ) (bs : List Aabb) (v : Node) (outer : Aabb) (at s x y : ℕ) where
  pub kind_leaf_to : kind_of o bs v outer at s ≡ Some (Leaf x y) → KindLeaf o bs v outer at s x y
  unfolding kind_of
  kind_leaf_to e =
      let p = is_Is_leaf (hull_ok v.hull outer at) (eqb v.count 0) (eqb v.start 0) (leaf_ok o bs v s) (at + 1)
      v.right (at + 1) (s + v.count) x y e in
      let l = leaf_to o bs v s p.2 in
      let ne = eqb-false v.count 0 p.1 in
      record {
        good = p.0;
        stands = λ i. record { hull = v.hull; start = l.start i; count = v.count; right = l.right i };
        above = omega arith;
        leafs = l;
        next = p.3;
        last = p.4;
      }

  pub kind_inner_to : kind_of o bs v outer at s ≡ Some (Inner x y) → KindInner v outer at x y
  unfolding kind_of
  kind_inner_to e =
      let p = is_inner (hull_ok v.hull outer at) (eqb v.count 0) (eqb v.start 0) (leaf_ok o bs v s) (at + 1)
      v.right (at + 1) (s + v.count) x y e in
      let es : v.start ≡ 0 = eqb-true v.start 0 p.2 in
      let ec : v.count ≡ 0 = eqb-true v.count 0 p.1 in
      let er : v.right ≡ y = p.4 in
      record { good = p.0; stands = λ i. record { hull = v.hull; start = es i; count = ec i; right = er i }; next = p.3 }
