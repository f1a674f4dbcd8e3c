-- What a build or an offer replies and leaves, case by case of the number; a tree that stands has at most 511 nodes, so
-- its size fits a word. Assumes nothing.
use Prim.Native.Nat.{ℕ, ◌*◌, ◌≤◌, ◌<◌}
use mathlib.Core.Path.{◌≡◌, refl, sym, ◌∙◌, ap}
use mathlib.Core.Bool.{Bool, true, false, cond}
use mathlib.Core.List.{List}
use native.Mathlib.Omega.{arith}
use lib.ListN.{length, replicate}
use lib.Dec.{eqb}
use lib.Ieee.{Float}
use borrow.Author.Tests.{eq-eqb, ne_eqb, eqb-false, lt-ltb}
use Rattle.sdf.specs.declared.Aabb.{Aabb}
use Rattle.words.specs.Lists.{list_from}
use Rattle.refusals.specs.Refusals.{lower, unless, too_deep}
use Rattle.refusals.proofs.Lowest.{lower_zero}
use Rattle.plan.specs.Plan.{Plan, plan_of}
use Rattle.plan_test.specs.Tests.{objects_number}
use Rattle.plan_test.proofs.Exact.{objects_exact}
use Rattle.bvh_boxes.specs.Boxes.{boxes_of}
use Rattle.bvh_boxes.proofs.Lists.{boxes_length}
use Rattle.bvh_rules.specs.declared.Sub.{Sub}
use Rattle.std.specs.Prelude.{Option, Some, None}
use Rattle.bvh_rules.specs.Nodes.{nodes_of, order_of}
use Rattle.bvh_rules.specs.Check.{judge_of}
use Rattle.bvh_rules.proofs.Level.{good_sub}
use Rattle.bvh_rules.proofs.Lists.{nodes_length}
use Rattle.bvh_rules.proofs.Trees.{stands_fit}
use Rattle.bvh_rules.proofs.Exact.{tree_told}
use Rattle.bvh_build.specs.declared.Built.{Built}
use Rattle.bvh_build.specs.Inside.Narrow.{low32}
use Rattle.bvh_build.specs.Tables.{size_of, low_enough, nodes_with, order_with}
use Rattle.bvh_build.specs.Inside.Lays.{Builds}
use Rattle.bvh_build.proofs.Meets.{built_size}
use Rattle.reply.specs.declared.Reply.{Reply}
use Rattle.reply.specs.Reply.{refused_reply, one_word, reply_of}
use Rattle.bemitondry_tree.specs.Trees.{build_number, judged_tree, offered_tree}
use Rattle.bemitondry_tree.specs.Inside.Leaves.{BuildLeaves}
use Rattle.bemitondry_tree.specs.Trees.{offer_number, size_in, front_word}
use Rattle.bemitondry_tree.specs.Inside.Leaves.{OfferLeaves}

few_objects : (p : Plan) → objects_number p ≡ 0 → length p.objects ≤ 256
few_objects p e = ((objects_exact p).0 e).counts.objects

fits_word : (x : ℕ) → x ≤ 511 → low32 x ≡ x
fits_word x h = let l : x < 4294967296 = omega arith in rw (lt-ltb x 4294967296 l)

replied : (n : ℕ) (r s : Reply) → n ≡ 0 → r ≡ s → r ≡ reply_of n s
unfolding reply_of
replied n r s e h = rw (eq-eqb n 0 e) h

refuses : (n m : ℕ) (r s : Reply) → n ≡ m → (n ≡ 0 → ⊥) → r ≡ refused_reply n → r ≡ reply_of m s
unfolding reply_of
refuses n m r s e h q = rw (← e, ne_eqb n 0 h) q

-- a table that is written where the number is 0, and else all zero
written : (n : ℕ) (x y z : List ℕ) → n ≡ 0 → x ≡ y → x ≡ cond (eqb n 0) y z
written n x y z e h = rw (eq-eqb n 0 e) h

zeroed : (n m : ℕ) (x y z : List ℕ) → n ≡ m → (n ≡ 0 → ⊥) → x ≡ z → x ≡ cond (eqb m 0) y z
zeroed n m x y z e h q = rw (← e, ne_eqb n 0 h) q

cleared : (w : List ℕ) (m n : ℕ) → m ≡ n → w ≡ replicate m 0 → w ≡ replicate n 0
cleared w m n l e = e ∙ ap (λ (k : ℕ). replicate k 0) l

-- ---- a build
module _ (before : ℕ) (p : Plan) where
  of_built : objects_number p ≡ 0 → build_number before p ≡ lower before (unless too_deep (low_enough p))
  unfolding build_number
  of_built e = rw (eq-eqb _ 0 e)

  of_broken : (objects_number p ≡ 0 → ⊥) → build_number before p ≡ lower before (objects_number p)
  unfolding build_number
  of_broken e = rw (ne_eqb _ 0 e)

  module _ (o n : ℕ) (nw ow : List ℕ) (b : Built) (nw' ow' : List ℕ) (u : ℕ) (eo : o ≡ objects_number p) (z : o ≡ 0)
      (B : length p.objects ≤ 256 → Builds p nw ow b nw' ow') (eu : u ≡ unless 7 b.low)
      (en : n ≡ lower before u) where
    sound : objects_number p ≡ 0
    sound = sym eo ∙ z

    built : Builds p nw ow b nw' ow'
    built = B (few_objects p sound)

    number : n ≡ build_number before p
    number = en ∙ ap (lower before) (eu ∙ ap (unless 7) built.low_is) ∙ sym (of_built sound)

    pub builds : (a b' k : ℕ) (r : Reply) → a ≡ 4599 → b' ≡ 256
        → nw ≡ replicate a 0 → ow ≡ replicate b' 0 → n ≡ 0 → k ≡ low32 b.next → r ≡ one_word k
        → BuildLeaves before p r nw' ow'
    builds a b' k r ln lo zn zo e ek er =
        let zero = sym number ∙ e in
        let size : k ≡ size_of p = ek ∙ ap low32 built.next_is ∙ fits_word (size_of p)
        (built_size p (few_objects p sound)) in
        record {
          reply = replied _ r _ zero (er ∙ ap one_word size);
          nodes = written _ nw' _ _ zero (built.nodes_are ∙ ap (nodes_with p) (cleared nw a 4599 ln zn));
          order = written _ ow' _ _ zero (built.order_is ∙ ap (order_with p) (cleared ow b' 256 lo zo));
        }

    pub builds_deep : (nw'' ow'' : List ℕ) (a b' : ℕ) (r : Reply) → a ≡ 4599 → b' ≡ 256
        → nw'' ≡ replicate a 0 → ow'' ≡ replicate b' 0 → (n ≡ 0 → ⊥) → r ≡ refused_reply n
        → BuildLeaves before p r nw'' ow''
    builds_deep nw'' ow'' a b' r ln lo zn zo e er =
        record {
          reply = refuses n _ r _ number e er;
          nodes = zeroed n _ nw'' _ _ number e (cleared nw'' a 4599 ln zn);
          order = zeroed n _ ow'' _ _ number e (cleared ow'' b' 256 lo zo);
        }

  pub builds_not
      : (o n : ℕ) (nw ow : List ℕ) (a b' : ℕ) (r : Reply) → o ≡ objects_number p → (o ≡ 0 → ⊥)
      → n ≡ lower before o
      → a ≡ 4599 → b' ≡ 256 → nw ≡ replicate a 0 → ow ≡ replicate b' 0 → r ≡ refused_reply n
      → BuildLeaves before p r nw ow
  builds_not o n nw ow a b' r eo z en ln lo zn zo er =
      let number : n ≡ build_number before p = en ∙ ap (lower before) eo ∙ sym (of_broken (λ h. z (eo ∙ h))) in
      let some : n ≡ 0 → ⊥ = λ h. z ((lower_zero before o).0 (sym en ∙ h)).1 in
      record {
        reply = refuses n _ r _ number some er;
        nodes = zeroed n _ nw _ _ number some (cleared nw a 4599 ln zn);
        order = zeroed n _ ow _ _ number some (cleared ow b' 256 lo zo);
      }

-- ---- an offer
judge_none
    : (w : List ℕ) (f : List Float) (o : List ℕ) (bs : List Aabb) → eqb (length bs) 0 ≡ true
    → judge_of 64 w f o bs ≡ good_sub 0 0
unfolding judge_of
judge_none w f o bs e = rw e

module _ (w : List ℕ) (f : List Float) (long : length w ≡ 27296) (sound : objects_number (plan_of w f) ≡ 0) where
  abbrev bs : List Aabb
  bs = boxes_of (plan_of w f)

  judged_few : size_in (judged_tree w f) ≤ 511
  unfolding judged_tree
  judged_few = go (eqb (length bs) 0) refl (judge_of 64 (nodes_of w) (nodes_of f) (order_of w) bs) refl
    where
      few : length bs ≤ 256
      few = omega (arith, boxes_length (plan_of w f), few_objects (plan_of w f) sound)

      go
          : (b : Bool) → eqb (length bs) 0 ≡ b → (s : Option Sub)
          → judge_of 64 (nodes_of w) (nodes_of f) (order_of w) bs ≡ s → size_in s ≤ 511
      go b n None q = omega arith
      go true n (Some s) q =
          let z : 0 ≡ s.next = ap size_in (sym (judge_none (nodes_of w) (nodes_of f) (order_of w) bs n)
          ∙ q) in omega arith
      go false n (Some s) q =
          let some : 0 < length bs = omega (arith, eqb-false (length bs) 0 n) in
          let t = tree_told (nodes_of w) (nodes_of f) (order_of w) bs (nodes_length w long) few s.next s.ends some q in
          omega (
            arith,
            t.1.1,
            stands_fit (nodes_of w) (nodes_of f) (nodes_length w long) 0 0 t.0
                t.1.0.holds.stands,
          )

module _ (before : ℕ) (w : List ℕ) (f : List Float) where
  of_offered : objects_number (plan_of w f) ≡ 0 → offer_number before w f ≡ lower before (offered_tree w f)
  unfolding offer_number
  of_offered e = rw (eq-eqb _ 0 e)

  of_not
      : (objects_number (plan_of w f) ≡ 0 → ⊥)
      → offer_number before w f ≡ lower before (objects_number (plan_of w f))
  unfolding offer_number
  of_not e = rw (ne_eqb _ 0 e)

  module _ (o n u : ℕ) (s : Option Sub) (eo : o ≡ objects_number (plan_of w f)) (z : o ≡ 0) (es : s ≡ judged_tree w f)
      (eu : s ≡ judged_tree w f → u ≡ offered_tree w f) (en : n ≡ lower before u) where
    given : objects_number (plan_of w f) ≡ 0
    given = sym eo ∙ z

    offered : n ≡ offer_number before w f
    offered = en ∙ ap (lower before) (eu es) ∙ sym (of_offered given)

    pub offers
        : length w ≡ 27296 → (k m c : ℕ) (nw ow : List ℕ) (a b' : ℕ) (r : Reply) → a ≡ 4599
        → b' ≡ 256
        → n ≡ 0 → m ≡ size_in s → k ≡ low32 m → c ≡ length (plan_of w f).objects
        → nw ≡ list_from (front_word w 22432 (9 * k)) 0 a → ow ≡ list_from (front_word w 27031 c) 0 b'
        → r ≡ one_word k → OfferLeaves before w f r nw ow
    offers long k m c nw ow a b' r ln lo e em ek ec zn zo er =
        let zero = sym offered ∙ e in
        let size : k ≡ size_in (judged_tree w f) = ek ∙ ap low32 (em ∙ ap size_in es) ∙ fits_word _
        (judged_few w f long given) in
        record {
          reply = replied _ r _ zero (er ∙ ap one_word size);
          nodes = written _ nw _ _ zero (zn ∙ rw (ln, size));
          order = written _ ow _ _ zero (zo ∙ rw (lo, ec));
        }

    pub offers_bad : (nw ow : List ℕ) (a b' : ℕ) (r : Reply) → a ≡ 4599 → b' ≡ 256
        → nw ≡ replicate a 0 → ow ≡ replicate b' 0 → (n ≡ 0 → ⊥) → r ≡ refused_reply n
        → OfferLeaves before w f r nw ow
    offers_bad nw ow a b' r ln lo zn zo e er =
        record {
          reply = refuses n _ r _ offered e er;
          nodes = zeroed n _ nw _ _ offered e (cleared nw a 4599 ln zn);
          order = zeroed n _ ow _ _ offered e (cleared ow b' 256 lo zo);
        }

  pub offers_not
      : (o n : ℕ) (nw ow : List ℕ) (a b' : ℕ) (r : Reply) → o ≡ objects_number (plan_of w f)
      → (o ≡ 0 → ⊥) → n ≡ lower before o
      → a ≡ 4599 → b' ≡ 256 → nw ≡ replicate a 0 → ow ≡ replicate b' 0 → r ≡ refused_reply n
      → OfferLeaves before w f r nw ow
  offers_not o n nw ow a b' r eo z en ln lo zn zo er =
      let number : n ≡ offer_number before w f = en ∙ ap (lower before) eo ∙ sym (of_not (λ h. z (eo ∙ h))) in
      let some : n ≡ 0 → ⊥ = λ h. z ((lower_zero before o).0 (sym en ∙ h)).1 in
      record {
        reply = refuses n _ r _ number some er;
        nodes = zeroed n _ nw _ _ number some (cleared nw a 4599 ln zn);
        order = zeroed n _ ow _ _ number some (cleared ow b' 256 lo zo);
      }
