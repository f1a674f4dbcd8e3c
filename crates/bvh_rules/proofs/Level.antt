-- One level of `check_of`, by what the node is, and what a node that is good tells of its places. Each by the tests
-- taken. Assumes nothing.
use Prim.Native.Nat.{ℕ, zero, suc, ◌+◌, ◌-◌, ◌<◌}
use mathlib.Core.Path.{◌≡◌, refl, sym}
use mathlib.Core.Bool.{Bool, true, false, cond, ◌&&◌, and-eq-true_iff, false≢true}
use mathlib.Core.List.{List}
use native.Mathlib.Numerals.{sub-one}
use native.Mathlib.Omega.{arith}
use lib.ListN.{length}
use lib.Dec.{eqb, ltb, leb}
use lib.Ieee.{Float}
use borrow.Author.Tests.{eq-eqb, ne_eqb, eqb-true, ltb-true}
use Rattle.std.specs.Prelude.{Option, Some, None}
use Rattle.sdf.specs.declared.Aabb.{Aabb}
use Rattle.bvh_boxes.specs.Boxes.{finite_box, inside}
use Rattle.bvh_rules.specs.declared.Node.{Node}
use Rattle.bvh_rules.specs.declared.Kind.{Kind}
use Rattle.bvh_rules.specs.declared.Kind.TheVariants.{Leaf, Inner}
use Rattle.bvh_rules.specs.declared.Sub.{Sub}
use Rattle.bvh_rules.specs.Nodes.{node_at}
use Rattle.bvh_rules.specs.Inside.Steps.{holds_all, leaf_words, leaf_ok, hull_ok, kind_of, then, on_kind, check_of}
use Rattle.bvh_rules.specs.Inside.Steps.{order_ok, whole_of}
use Rattle.bvh_rules.specs.Check.{judge_of}

-- a subtree that is good
abbrev pub good_sub : ℕ → ℕ → Option Sub
good_sub next ends = Some (record { next = next; ends = ends })

-- both of a test's parts
pub cond_true : (a b : Bool) → cond a b false ≡ true → (a ≡ true) × (b ≡ true)
cond_true true b e = (refl, e)
cond_true false b e = absurd (false≢true e)

pub hull_at : (b outer : Aabb) (at : ℕ) → hull_ok b outer at ≡ true → at < 511
unfolding hull_ok
hull_at b outer at e = ltb-true at 511 ((and-eq-true_iff (ltb at 511) (finite_box b && inside b outer)).0 e).0

pub words_start : (v : Node) (n start : ℕ) → leaf_words v n start ≡ true → v.start ≡ start
unfolding leaf_words
words_start v n start e =
    let p = (and-eq-true_iff (eqb v.right 0 && eqb v.start start)
    (leb start n && leb v.count (n - start))).0 e in
    eqb-true v.start start ((and-eq-true_iff (eqb v.right 0) (eqb v.start start)).0 p.0).1

module _ (o : List ℕ) (bs : List Aabb) (v : Node) (start : ℕ) where
  module _ (n : ℕ) (e : n ≡ length bs) where
    pub leaf_good
        : leaf_words v n start ≡ true → leaf_ok o bs v start ≡ holds_all o bs v.hull v.start v.count
    unfolding leaf_ok
    leaf_good g = rw (sym e, g, words_start v n start g)

    pub leaf_bad : leaf_words v n start ≡ false → leaf_ok o bs v start ≡ false
    unfolding leaf_ok
    leaf_bad g = rw (sym e, g)

  pub leaf_start : leaf_ok o bs v start ≡ true → v.start ≡ start
  unfolding leaf_ok
  leaf_start e =
      words_start v (length bs) start
      (cond_true (leaf_words v (length bs) start) (holds_all o bs v.hull start v.count) e).0

module _ (o : List ℕ) (bs : List Aabb) (v : Node) (outer : Aabb) (at start : ℕ) where
  pub kind_out : hull_ok v.hull outer at ≡ false → None ≡ kind_of o bs v outer at start
  unfolding kind_of
  kind_out h = rw h

  module _ (h : hull_ok v.hull outer at ≡ true) where
    pub kind_inner : v.count ≡ 0 → v.start ≡ 0 → Some (Inner (at + 1) v.right) ≡ kind_of o bs v outer at start
    unfolding kind_of
    kind_inner c s = rw (h, eq-eqb v.count 0 c, eq-eqb v.start 0 s)

    pub kind_started : v.count ≡ 0 → (v.start ≡ 0 → ⊥) → None ≡ kind_of o bs v outer at start
    unfolding kind_of
    kind_started c s = rw (h, eq-eqb v.count 0 c, ne_eqb v.start 0 s)

    pub kind_leaf
        : (v.count ≡ 0 → ⊥) → leaf_ok o bs v start ≡ true
        → Some (Leaf (at + 1) (start + v.count)) ≡ kind_of o bs v outer at start
    unfolding kind_of
    kind_leaf c e = rw (h, ne_eqb v.count 0 c, e)

    pub kind_no_leaf
        : (v.count ≡ 0 → ⊥) → leaf_ok o bs v start ≡ false → None ≡ kind_of o bs v outer at start
    unfolding kind_of
    kind_no_leaf c e = rw (h, ne_eqb v.count 0 c, e)

module _ (w : List ℕ) (f : List Float) (o : List ℕ) (bs : List Aabb) (outer : Aabb) (at start : ℕ) where
  pub check_none : (level : ℕ) → level ≡ 0 → None ≡ check_of level w f o bs outer at start
  unfolding check_of
  check_none level e = rw e

  module _ (v : Node) (ev : v ≡ node_at w f at) (k : Option Kind) (ek : k ≡ kind_of o bs v outer at start) where
    -- the parts are in v's box
    check_step
        : (level : ℕ) → 0 < level
        → check_of level w f o bs outer at start ≡ on_kind k
        (λ left right. then (check_of (level - 1) w f o bs v.hull left start) right
        (λ next end. check_of (level - 1) w f o bs v.hull next end))
    unfolding check_of
    check_step zero h = absurd (omega arith)
    check_step (suc level) h = rw (ek, ev, sub-one)

    module _ (level : ℕ) (h : 0 < level) where
      pub check_wrong : k ≡ None → None ≡ check_of level w f o bs outer at start
      check_wrong e = rw (check_step level h, e)

      pub check_leaf : (a b : ℕ) → k ≡ Some (Leaf a b) → good_sub a b ≡ check_of level w f o bs outer at start
      check_leaf a b e = rw (check_step level h, e)

      module _ (l r : ℕ) (e : k ≡ Some (Inner l r)) (part : Option Sub)
          (ep : part ≡ check_of (level - 1) w f o bs v.hull l start) where
        pub check_left_bad : part ≡ None → None ≡ check_of level w f o bs outer at start
        check_left_bad g = rw (check_step level h, e, sym ep, g)

        module _ (a b : ℕ) (g : part ≡ good_sub a b) where
          pub check_right
              : (x : Option Sub) → r ≡ a → x ≡ check_of (level - 1) w f o bs v.hull a b
              → x ≡ check_of level w f o bs outer at start
          check_right x q k = rw (check_step level h, e, sym ep, g, eq-eqb r a q) k

          pub check_other : (r ≡ a → ⊥) → None ≡ check_of level w f o bs outer at start
          check_other q = rw (check_step level h, e, sym ep, g, ne_eqb r a q)

-- ---- the whole tree
module _ (levels : ℕ) (w : List ℕ) (f : List Float) (o : List ℕ) (bs : List Aabb) (n : ℕ) (e : n ≡ length bs) where
  pub judge_none : n ≡ 0 → good_sub 0 0 ≡ judge_of levels w f o bs
  unfolding judge_of
  judge_none z = rw (sym e, eq-eqb n 0 z)

  module _ (z : n ≡ 0 → ⊥) where
    pub judge_order : order_ok o n ≡ false → None ≡ judge_of levels w f o bs
    unfolding judge_of
    judge_order g = rw (sym e, ne_eqb n 0 z, g)

    pub judge_whole
        : order_ok o n ≡ true → (top : Node) → top ≡ node_at w f 0 → (s : Option Sub)
        → s ≡ check_of levels w f o bs top.hull 0 0 → whole_of s n ≡ judge_of levels w f o bs
    unfolding judge_of
    judge_whole g top t s k = rw (sym e, ne_eqb n 0 z, g, sym t, k)
