-- The walk is good at a place exactly when a tree stands there with its boxes in order, and then it tells the tree's
-- end. By induction on the levels left. Assumes nothing.
use Prim.Native.Nat.{ℕ, zero, suc, ◌+◌, ◌≤◌, ◌<◌}
use mathlib.Core.Path.{◌≡◌, refl, sym, ◌∙◌, ap, ap₂, subst, subst₂}
use mathlib.Core.Logic.{◌↔◌}
use mathlib.Core.Bool.{Bool, true, false, cond, true≢false}
use mathlib.Core.List.{List}
use native.Mathlib.Omega.{arith}
use lib.Dec.{T, eqb}
use lib.ListN.{length}
use lib.Ieee.{Float}
use borrow.Author.Tests.{eq-eqb, eqb-true}
use Rattle.std.specs.Prelude.{Option, Some, None, is_some}
use Rattle.sdf.specs.declared.Aabb.{Aabb}
use Rattle.bvh_boxes.specs.Boxes.{inside}
use Rattle.bvh_rules.specs.declared.Node.{Node}
use Rattle.bvh_rules.specs.declared.Kind.{Kind}
use Rattle.bvh_rules.specs.declared.Kind.TheVariants.{Leaf, Inner}
use Rattle.bvh_rules.specs.declared.Sub.{Sub}
use Rattle.bvh_rules.specs.Nodes.{node_at, inner_node, leaf_node}
use Rattle.bvh_rules.specs.Rules.{Tree, leaf, node, hull, size, weight, depth, Stands, Boxed}
use Rattle.bvh_rules.specs.Inside.Steps.{kind_of, then, on_kind, check_of}
use Rattle.bvh_rules.proofs.Level.{good_sub, kind_leaf, kind_inner}
use Rattle.bvh_rules.proofs.Trees.{stands_below}
use Rattle.bvh_rules.proofs.Tests.{hull_to, hull_from_lem, leaf_from, kind_leaf_to, kind_inner_to}

pub bad_good : (a b : ℕ) → None ≡ good_sub a b → ⊥
bad_good a b e = true≢false (sym (ap is_some e))

abbrev next_in : Option Sub → ℕ
next_in None = 0
next_in (Some s) = s.next

abbrev ends_in : Option Sub → ℕ
ends_in None = 0
ends_in (Some s) = s.ends

pub good_parts : (s : Sub) (a b : ℕ) → Some s ≡ good_sub a b → (s.next ≡ a) × (s.ends ≡ b)
good_parts s a b e = (ap next_in e, ap ends_in e)

module _ (w : List ℕ) (f : List Float) (o : List ℕ) (bs : List Aabb) where
  -- what a good place holds
  pub record Found (level : ℕ) (outer : Aabb) (at start next «end» : ℕ) : Type 0 where
    pub tree : Tree
    pub stands : Stands w f at start tree
    pub low : depth tree < level
    pub boxed : Boxed o bs start tree
    pub within : T (inside (hull tree) outer)
    pub after : next ≡ at + size tree
    pub last : «end» ≡ start + weight tree
    pub few : «end» ≤ length bs

  -- ---- a good place holds a tree
  module _ (level : ℕ) (outer : Aabb) (at s a b : ℕ)
      (ih : (outer : Aabb) (at s a b : ℕ) → check_of level w f o bs outer at s ≡ good_sub a b
      → Found level outer at s a b) where
    abbrev v : Node
    v = node_at w f at

    join
        : (l r x y : ℕ) → kind_of o bs v outer at s ≡ Some (Inner l r) → Found level v.hull l s x y → r ≡ x
        → Found level v.hull x y a b → Found (suc level) outer at s a b
    join l r x y k p e q =
        let i = kind_inner_to o bs v outer at s l r k in
        let box = hull_to v.hull outer at i.good in
        let ex : x ≡ at + 1 + size p.tree = omega (arith, p.after, i.next) in
        record {
          tree = node v.hull p.tree q.tree;
          stands = (
            i.stands ∙ ap (inner_node v.hull) (e ∙ ex),
            subst (λ (j : ℕ). Stands w f j s p.tree) (sym i.next) p.stands,
            subst₂ (λ (j k : ℕ). Stands w f j k q.tree) ex p.last q.stands,
          );
          low = omega (arith, p.low, q.low);
          boxed = (
            box.0,
            (p.within, q.within),
            (
              p.boxed,
              subst (λ (j : ℕ). Boxed o bs j q.tree) p.last
                  q.boxed,
            ),
          );
          within = box.1;
          after = omega (arith, q.after, ex);
          last = omega (arith, q.last, p.last);
          few = q.few;
        }

    by_test
        : (l r x y : ℕ) → kind_of o bs v outer at s ≡ Some (Inner l r) → Found level v.hull l s x y → (t : Bool)
        → eqb r x ≡ t → cond t (check_of level w f o bs v.hull x y) None ≡ good_sub a b → Found
        (suc level) outer at s a b
    by_test l r x y k p true e g = join l r x y k p (eqb-true r x e) (ih v.hull x y a b g)
    by_test l r x y k p false e g = absurd (bad_good a b g)

    by_left
        : (l r : ℕ) → kind_of o bs v outer at s ≡ Some (Inner l r) → (u : Option Sub)
        → check_of level w f o bs v.hull l s ≡ u
        → then u r (λ next end. check_of level w f o bs v.hull next end) ≡ good_sub a b → Found
        (suc level) outer at s a b
    by_left l r k None e g = absurd (bad_good a b g)
    by_left l r k (Some u) e g = by_test l r u.next u.ends k (ih v.hull l s u.next u.ends e) (eqb r u.next) refl g

    by_kind
        : (k : Option Kind) → kind_of o bs v outer at s ≡ k
        → on_kind k (λ left right. then (check_of level w f o bs v.hull left s) right
        (λ next end. check_of level w f o bs v.hull next end)) ≡ good_sub a b
        → Found (suc level) outer at s a b
    by_kind None k g = absurd (bad_good a b g)
    by_kind (Some (Leaf x y)) k g =
        let i = kind_leaf_to o bs v outer at s x y k in
        let box = hull_to v.hull outer at i.good in
        let q : (x ≡ a) × (y ≡ b) = good_parts (record { next = x; ends = y }) a b g in
        record {
          tree = leaf v.hull v.count;
          stands = (i.stands, i.above);
          low = omega arith;
          boxed = (box.0, i.leafs.held);
          within = box.1;
          after = omega (arith, i.next, q.0);
          last = omega (arith, i.last, q.1);
          few = omega (arith, i.last, i.leafs.few, q.1);
        }
    by_kind (Some (Inner l r)) k g = by_left l r k (check_of level w f o bs v.hull l s) refl g

  pub sub_to
      : (level : ℕ) (outer : Aabb) (at s a b : ℕ) → check_of level w f o bs outer at s ≡ good_sub a b
      → Found level outer at s a b
  unfolding check_of
  sub_to zero outer at s a b e = absurd (bad_good a b e)
  sub_to (suc level) outer at s a b e =
      by_kind level outer at s a b (λ outer at s a b e. sub_to level outer at s a b e)
      (kind_of o bs (node_at w f at) outer at s) refl e

  -- ---- where a tree stands the place is good
  module _ (lw : length w ≡ 4599) where
    sub_tree
        : (level : ℕ) (outer : Aabb) (at s : ℕ) (t : Tree) → Stands w f at s t → depth t < level
        → Boxed o bs s t
        → T (inside (hull t) outer) → s + weight t ≤ length bs
        → check_of level w f o bs outer at s ≡ good_sub (at + size t) (s + weight t)
    unfolding check_of
    sub_tree zero outer at s t h d x k g = absurd (omega arith)
    sub_tree (suc level) outer at s (leaf b c) h d x k g =
        let good = hull_from_lem b outer at (stands_below w f lw at s (leaf b c) h) x.0 k in
        let v : Node = leaf_node b s c in
        let ne : c ≡ 0 → ⊥ = λ e. absurd (omega (arith, h.1)) in
        let l = leaf_from o bs v s (record { right = refl; start = refl; few = g; held = x.1 }) in
        rw (h.0, sym (kind_leaf o bs v outer at s good ne l))
    sub_tree (suc level) outer at s (node b l r) h d x k g =
        let good = hull_from_lem b outer at (stands_below w f lw at s (node b l r) h) x.0 k in
        let m : ℕ = at + 1 + size l in
        let p = sub_tree level b (at + 1) s l h.1 (omega arith) x.2.0 x.1.0 (omega arith) in
        let q = sub_tree level b m (s + weight l) r h.2 (omega arith) x.2.1 x.1.1 (omega arith) in
        rw (h.0, sym (kind_inner o bs (inner_node b m) outer at s good refl refl), p, eq-eqb m m refl)
        (q ∙ ap₂ good_sub (omega arith) (omega arith))

    pub sub_exact
        : (level : ℕ) (outer : Aabb) (at s a b : ℕ)
        → (check_of level w f o bs outer at s ≡ good_sub a b) ↔ Found level outer at s a b
    sub_exact level outer at s a b = (
      sub_to level outer at s a b,
      λ p. sub_tree level outer at s p.tree p.stands p.low p.boxed p.within
          (omega (arith, p.last, p.few)) ∙ ap₂ good_sub (sym p.after) (sym p.last),
    )
