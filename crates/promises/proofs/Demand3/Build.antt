-- A build keeps its part of the third demand: by the laws of the builder, whose words are stored. Assumes nothing.
use Prim.Native.Nat.{ℕ, ◌*◌, ◌≤◌, ◌<◌}
use mathlib.Core.Path.{◌≡◌, refl, sym, ◌∙◌}
use mathlib.Core.Logic.{◌↔◌, ◌⊎◌, inl, inr, ⊎_elim}
use mathlib.Core.Bool.{Bool, true, cond}
use mathlib.Core.List.{List, []}
use native.Mathlib.Decide.{dec_le}
use native.Mathlib.Omega.{arith}
use lib.Dec.{ltb, eqb}
use lib.ListN.{length, length-replicate}
use borrow.Author.Tests.{ltb-true, lt-ltb, le-ltb, eq-eqb, ne_eqb}
use Rattle.words.specs.Words.{words_of, with_words}
use Rattle.words.proofs.Laws.{less_or}
use Rattle.refusals.specs.Refusals.{too_deep, unless, lower}
use Rattle.refusals.proofs.Lowest.{unless_zero}
use Rattle.plan.specs.Sections.{nodes_words, order_places}
use Rattle.plan.specs.Plan.{Plan}
use Rattle.plan_test.specs.Exact.{SoundObjects}
use Rattle.plan_test.proofs.Exact.{objects_exact}
use Rattle.bvh_rules.specs.Rules.{size, depth}
use Rattle.bvh_build.specs.Encode.{encode, laid}
use Rattle.bvh_build.specs.Tables.{built_of, size_of, low_enough, nodes_with, order_with}
use Rattle.bvh_build.proofs.Laid.{length_laid}
use Rattle.bvh_build.proofs.Shape.{low_depth}
use Rattle.bvh_build.proofs.Meets.{built_holds, built_low}
use Rattle.wire_lengths.specs.Lengths.{out_bytes, tree_tables_before}
use Rattle.bemitondry_tree.specs.Trees.{no_nodes, no_order, build_number}
use Rattle.wire_tree.specs.Trees.{build_stores, built_words, BuildSent}
use Rattle.promises.specs.Bytes.{plan_at, words_of_nodes, order_words, FullPlan, FullTree}
use Rattle.promises.specs.Demand1.{Lent}
use Rattle.promises.specs.Demand3.{BuildKeeps}
use Rattle.promises.proofs.Cases.{either}
use Rattle.promises.proofs.Lengths.{lent_tree_exact}
use Rattle.promises.proofs.Tables.{stored_words}
use Rattle.promises.proofs.Replies.{sent_number, sent_word}

-- ---- what is built
module _ (p : Plan) where
  abbrev deepest : ℕ
  deepest = depth (built_of p).tree

  of_none : length p.objects ≡ 0 → (low_enough p ≡ true) × (size_of p ≡ 0)
  unfolding low_enough size_of
  of_none e = rw (eq-eqb (length p.objects) 0 e) (refl, refl)

  of_some : 0 < length p.objects → (low_enough p ≡ ltb deepest 64) × (size_of p ≡ size (built_of p).tree)
  unfolding low_enough size_of
  of_some h = rw (ne_eqb (length p.objects) 0 (λ e. omega arith)) (low_depth (built_of p).tree 64, refl)

  deep_exact : (unless too_deep (low_enough p) ≡ too_deep) ↔ ((0 < length p.objects) × (63 < deepest))
  unfolding unless
  deep_exact =
      elim (dec_le 1 (length p.objects)) [
        | yes some ↦
            rw (of_some some).0
            (⊎_elim
            (λ h. rw (lt-ltb deepest 64 h) (omega arith)) (λ h. rw (le-ltb deepest 64 h) (omega arith))
            (less_or deepest 64))
        | no none ↦ rw (of_none (omega arith)).0 (omega arith)
      ]

over_length : (b : Bool) (xs ys : List ℕ) → length (cond b xs (laid xs 0 ys)) ≡ length xs
over_length b xs ys = either (λ (l : List ℕ). length l ≡ length xs) b xs (laid xs 0 ys) refl (length_laid xs 0 ys)

nodes_length : (p : Plan) (nodes : List ℕ) → length (nodes_with p nodes) ≡ length nodes
unfolding nodes_with
nodes_length p nodes = over_length (eqb (length p.objects) 0) nodes (encode (built_of p).tree 0 0)

order_length : (p : Plan) (order : List ℕ) → length (order_with p order) ≡ length order
unfolding order_with
order_length p order = over_length (eqb (length p.objects) 0) order (built_of p).order

-- ---- what is stored of a build whose number is 0
built_words_lem
    : (number n : ℕ) (b b' ws none : List ℕ)
    → number ≡ 0
    → length ws ≡ n
    → 4 * n ≤ length b
    → b' ≡ cond (build_stores number) (with_words b (built_words number ws none)) b
    → words_of b' n ≡ ws
unfolding build_stores
built_words_lem number n b b' ws none z l h e = rw (e, z) (stored_words b ws n l h)

none_or_deep : (b : Bool) → (unless too_deep b ≡ 0) ⊎ (unless too_deep b ≡ too_deep)
unfolding unless
none_or_deep b = either (λ (n : ℕ). (n ≡ 0) ⊎ (n ≡ too_deep)) b 0 too_deep (inl refl) (inr refl)

-- ---- a build
module _ (plan nodes order out : List ℕ) (n : ℕ) (nodes' order' out' : List ℕ) (fp : FullPlan plan)
    (ft : FullTree nodes order) (fo : out_bytes ≤ length out) (sound : SoundObjects (plan_at plan))
    (sent : BuildSent plan nodes order out n nodes' order' out')
  where
    abbrev P : Plan
    P = plan_at plan

    abbrev number : ℕ
    number = build_number (tree_tables_before (length plan) (length nodes) (length order) 0 0 (length out)) P

    number_depth : number ≡ unless too_deep (low_enough P)
    unfolding build_number lower
    number_depth =
        let lent : Lent 0 plan [] out = record { plan_full = fp; args_full = omega arith; out_full = fo } in
        rw ((lent_tree_exact 0 plan nodes order [] out).1 (lent, ft), (objects_exact P).1 sound)

    sent_is : n ≡ number
    sent_is = sent_number _ _ sent.sent

    sent_depth : n ≡ unless too_deep (low_enough P)
    sent_depth = sent_is ∙ number_depth

    nodes_are : n ≡ 0 → words_of_nodes nodes' ≡ nodes_with P no_nodes
    nodes_are z =
        built_words_lem number nodes_words nodes nodes' (nodes_with P no_nodes) no_nodes (sym sent_is ∙ z)
        (nodes_length P no_nodes ∙ length-replicate {A = ℕ} nodes_words 0) ft.nodes_full sent.nodes_is

    order_are : n ≡ 0 → order_words order' ≡ order_with P no_order
    order_are z =
        built_words_lem number order_places order order' (order_with P no_order) no_order (sym sent_is ∙ z)
        (order_length P no_order ∙ length-replicate {A = ℕ} order_places 0) ft.order_full sent.order_is

    low : n ≡ 0 → low_enough P ≡ true
    low z = (unless_zero 6 (low_enough P)).0 (sym sent_depth ∙ z)

    pub build_keeps : BuildKeeps plan out n nodes' order' out'
    build_keeps =
        record {
          one = rw sent_depth (none_or_deep (low_enough P));
          deep = rw sent_depth (deep_exact P);
          stands = λ z. rw (nodes_are z, order_are z) (built_low P sound (low z));
          same = λ z some.
              rw (nodes_are z, order_are z)
              (record {
                holds = built_holds P sound some;
                low = omega (arith, ltb-true (deepest P) 64 (sym (of_some P some).0 ∙ low z));
              });
          size_sent = λ z some. sent_word _ _ sent.sent (sym sent_is ∙ z) (of_some P some).1;
          none_sent = λ none.
              let made = of_none P none in
              sent_word _ _ sent.sent (number_depth ∙ (unless_zero 6 (low_enough P)).1 made.0) made.1;
        }
