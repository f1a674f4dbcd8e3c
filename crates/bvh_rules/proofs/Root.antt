-- With so many levels the checker's answer is good exactly when the tables hold a tree of fewer, and tells how many
-- nodes and objects it has. By the walk from the root, whose box lies within itself, and the order table. Assumes
-- nothing.
use Prim.Native.Nat.{ℕ, ◌≤◌, ◌<◌}
use mathlib.Core.Path.{◌≡◌, refl, sym, ◌∙◌, ap, subst}
use mathlib.Core.Logic.{◌↔◌}
use mathlib.Core.Bool.{Bool, true, false, cond, false≢true}
use mathlib.Core.List.{List}
use native.Mathlib.Omega.{arith}
use lib.Dec.{T, eqb}
use lib.ListN.{length}
use lib.Ieee.{Float}
use borrow.Author.Tests.{eq-eqb, eqb-true}
use Rattle.std.specs.Prelude.{Option, Some, None}
use Rattle.sdf.specs.declared.Aabb.{Aabb}
use Rattle.bvh_boxes.specs.Boxes.{finite_box, inside}
use Rattle.bvh_rules.specs.declared.Node.{Node}
use Rattle.bvh_rules.specs.declared.Sub.{Sub}
use Rattle.bvh_rules.specs.Nodes.{node_at}
use Rattle.bvh_rules.specs.Rules.{Tree, leaf, node, hull, size, depth, Stands, Boxed, Once, Holds}
use Rattle.bvh_rules.specs.Inside.Steps.{check_of, order_ok, whole_of}
use Rattle.bvh_rules.specs.Check.{judge_of, is_good}
use Rattle.bvh_rules.proofs.Level.{good_sub, judge_order, judge_whole}
use Rattle.bvh_rules.proofs.Marks.{order_exact}
use Rattle.bvh_boxes.proofs.Laws.{inside_refl}
use Rattle.bvh_rules.proofs.Accept.{Found, bad_good, good_parts, sub_to, sub_exact}

good_is : (s : Option Sub) → is_good s ≡ true → (a : ℕ) × (b : ℕ) × (s ≡ good_sub a b)
good_is None e = absurd (false≢true e)
good_is (Some s) e = (s.next, s.ends, refl)

-- ---- the root's box
root_hull : (w : List ℕ) (f : List Float) (s : ℕ) (t : Tree) → Stands w f 0 s t → (node_at w f 0).hull ≡ hull t
root_hull w f s (leaf b c) h = ap (λ (v : Node). v.hull) h.0
root_hull w f s (node b l r) h = ap (λ (v : Node). v.hull) h.0

root_finite : (o : List ℕ) (bs : List Aabb) (s : ℕ) (t : Tree) → Boxed o bs s t → T (finite_box (hull t))
root_finite o bs s (leaf b c) h = h.0
root_finite o bs s (node b l r) h = h.0

module _ (w : List ℕ) (f : List Float) (o : List ℕ) (bs : List Aabb) where
  module _ (lw : length w ≡ 4599) (few : length bs ≤ 256) where
    -- ---- so many levels
    module _ (levels : ℕ) (some : 0 < length bs) where
      -- what a good walk of the whole tree says
      pub record Whole (next «end» : ℕ) : Type 0 where
        pub tree : Tree
        pub holds : Holds w f o bs tree
        pub low : depth tree < levels
        pub after : next ≡ size tree
        pub last : «end» ≡ length bs

      by_walk
          : (s : Option Sub) (a b : ℕ) → s ≡ check_of levels w f o bs (node_at w f 0).hull 0 0 → Once o (length bs)
          → whole_of s (length bs) ≡ good_sub a b → Whole a b
      by_walk None a b e q g = absurd (bad_good a b g)
      by_walk (Some s) a b e q g = by_end (eqb s.ends (length bs)) refl g
        where
          by_end : (t : Bool) → eqb s.ends (length bs) ≡ t → cond t (Some s) None ≡ good_sub a b → Whole a b
          by_end false h g = absurd (bad_good a b g)
          by_end true h g =
              let p = sub_to w f o bs levels (node_at w f 0).hull 0 0 s.next s.ends (sym e) in
              let e : (s.next ≡ a) × (s.ends ≡ b) = good_parts s a b g in
              let ey = eqb-true s.ends (length bs) h in
              record {
                tree = p.tree;
                holds = record { stands = p.stands; all = omega (arith, p.last); once = q; boxed = p.boxed };
                low = p.low;
                after = omega (arith, p.after, e.0);
                last = omega (arith, e.1);
              }

      ne : length bs ≡ 0 → ⊥
      ne e = omega arith

      by_order : (a b : ℕ) (t : Bool) → order_ok o (length bs) ≡ t → judge_of levels w f o bs ≡ good_sub a b → Whole a b
      by_order a b false e g = absurd (bad_good a b (judge_order levels w f o bs (length bs) refl ne e ∙ g))
      by_order a b true e g =
          let s : Option Sub = check_of levels w f o bs (node_at w f 0).hull 0 0 in
          by_walk s a b refl ((order_exact o (length bs) few).0 e) (judge_whole levels w f o bs (length bs) refl ne e (node_at w f 0) refl s refl ∙ g)

      judge_tree
          : (t : Tree) → Holds w f o bs t → depth t < levels → judge_of levels w f o bs ≡ good_sub (size t) (length bs)
      judge_tree t h d =
          let box : T (inside (hull t) (node_at w f 0).hull) = subst (λ (x : Aabb). T (inside (hull t) x)) (sym (root_hull w f 0 t h.stands)) (inside_refl (hull t) (root_finite o bs 0 t h.boxed)) in
          let p : Found w f o bs levels (node_at w f 0).hull 0 0 (size t) (length bs)
          = record {
            tree =
                t;
            stands = h.stands;
            low = d;
            boxed = h.boxed;
            within = box;
            after = omega arith;
            last = omega
                (arith, h.all);
            few = omega arith;
          } in
          let s = (sub_exact w f o bs lw levels (node_at w f 0).hull 0 0 (size t) (length bs)).1 p in
          sym (judge_whole levels w f o bs (length bs) refl ne ((order_exact o (length bs) few).1 h.once) (node_at w f 0) refl (good_sub (size t) (length bs)) (sym s)) ∙
          rw (eq-eqb (length bs) (length bs) refl)

      -- a good answer tells the number of nodes and of objects
      pub judge_exact : (a b : ℕ) → (judge_of levels w f o bs ≡ good_sub a b) ↔ Whole a b
      judge_exact a b = (
        by_order a b (order_ok o (length bs)) refl,
        λ p. judge_tree p.tree p.holds p.low ∙ rw (p.after, p.last),
      )

      pub good_exact : (is_good (judge_of levels w f o bs) ≡ true) ↔ ((t : Tree) × (Holds w f o bs t × (depth t < levels)))
      good_exact = (to, λ p. ap is_good (judge_tree p.0 p.1.0 p.1.1))
        where
          to : is_good (judge_of levels w f o bs) ≡ true → (t : Tree) × (Holds w f o bs t × (depth t < levels))
          to e =
              let g = good_is (judge_of levels w f o bs) e in
              let p = (judge_exact g.0 g.1).0 g.2 in
              (p.tree, (p.holds, p.low))
