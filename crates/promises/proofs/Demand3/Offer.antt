-- An offer keeps its part of the third demand: the judge is exact, what is stored is the tree's. Assumes nothing.
use Prim.Native.Nat.{ℕ, ◌+◌, ◌*◌, ◌≤◌, ◌<◌}
use mathlib.Core.Path.{◌≡◌, refl, sym, ◌∙◌, ap}
use mathlib.Core.Logic.{◌⊎◌, inl, inr, ⊎_elim}
use mathlib.Core.List.{List, []}
use native.Mathlib.Omega.{arith}
use lib.ListN.{length, drop}
use lib.Seq.{get_or-take, get_or-drop}
use lib.Ieee.{Float}
use borrow.Author.Tests.{lt-ltb, eq-eqb}
use Rattle.sdf.specs.declared.Aabb.{Aabb}
use Rattle.words.specs.Lists.{list_from}
use Rattle.words.proofs.Runs.{length_from, get_d_from}
use Rattle.refusals.specs.Refusals.{bad_tree, too_deep, lower}
use Rattle.plan.specs.Sections.{nodes_first, nodes_words, order_first, order_places}
use Rattle.plan.specs.Records.{word_of}
use Rattle.plan.specs.Plan.{plan_in, seen}
use Rattle.plan_test.specs.Exact.{SoundObjects}
use Rattle.plan_test.proofs.Exact.{objects_exact}
use Rattle.bvh_boxes.specs.Boxes.{boxes_of}
use Rattle.bvh_boxes.proofs.Lists.{boxes_length}
use Rattle.bvh_rules.specs.Nodes.{nodes_of, order_of}
use Rattle.bvh_rules.specs.Rules.{Tree, size, MeetsRules}
use Rattle.bvh_rules.specs.Check.{judge_of, is_good, offered_number}
use Rattle.bvh_rules.proofs.Lists.{order_here}
use Rattle.bvh_rules.proofs.Level.{judge_none}
use Rattle.bvh_rules.proofs.Root.{judge_exact}
use Rattle.bvh_rules.proofs.Exact.{offered_exact, offered_deep, offered_bad}
use Rattle.bvh_rules.proofs.Trees.{weight_above, stands_fit}
use Rattle.wire_lengths.specs.Lengths.{out_bytes}
use Rattle.bemitondry_tree.specs.Trees.{offer_number, offered_tree, judged_tree, size_in, front_word, offered_nodes}
use Rattle.bemitondry_tree.specs.Trees.{offered_order}
use Rattle.wire_tree.specs.Trees.{offer_table, offer_before, OfferSent}
use Rattle.promises.specs.Bytes.{plan_at, words_of_nodes, node_floats, order_words, AcceptedTree, FullPlan, FullTree}
use Rattle.promises.specs.Demand1.{Lent}
use Rattle.promises.specs.Demand3.{OfferKeeps}
use Rattle.promises.proofs.Cases.{either}
use Rattle.promises.proofs.Lengths.{tree_exact, lent_tree_exact}
use Rattle.wire.proofs.Loads.{length_words}
use Rattle.promises.proofs.Tables.{stored_words}
use Rattle.promises.proofs.Replies.{sent_number, sent_word}
use Rattle.promises.proofs.Demand3.Asked.{ask_sound, ask_nodes, ask_order, ask_reads}
use Rattle.promises.proofs.Demand3.SameTree.{accepted_same}

-- ---- the words that an offer stores
-- the first k words of a part of the table
front_word_lem
    : (w part : List ℕ) (from k m i : ℕ)
    → word_of part i ≡ word_of w (from + i)
    → i < k
    → i < m
    → word_of (list_from (front_word w from k) 0 m) i ≡ word_of part i
unfolding front_word
front_word_lem w part from k m i e h l =
    let z : 0 + i ≡ i = omega arith in
    get_d_from (front_word w from k) 0 m i 0 l ∙ rw (z, lt-ltb i k h) (sym e)

nodes_here : (t : List ℕ) (i : ℕ) → i < nodes_words → word_of (nodes_of t) i ≡ word_of t (nodes_first + i)
unfolding nodes_of
nodes_here t i h = get_or-take nodes_words (drop nodes_first t) i 0 h ∙ get_or-drop nodes_first t i 0

-- ---- what the judge may send
none_bad_or_deep : (w : List ℕ) (f : List Float) (o : List ℕ) (bs : List Aabb)
    → (offered_number w f o bs ≡ 0)
    ⊎ ((offered_number w f o bs ≡ bad_tree) ⊎ (offered_number w f o bs ≡ too_deep))
unfolding offered_number
none_bad_or_deep w f o bs =
    let One : ℕ → Type 0 = λ n. (n ≡ 0) ⊎ ((n ≡ bad_tree) ⊎ (n ≡ too_deep)) in
    either One (is_good (judge_of 64 w f o bs)) 0 _ (inl refl)
    (either One (is_good (judge_of 256 w f o bs)) too_deep bad_tree (inr (inr refl)) (inr (inl refl)))

-- ---- an offer
module _ (plan nodes order given ranks out : List ℕ) (n : ℕ) (nodes' order' out' : List ℕ)
    (fp : FullPlan plan) (ft : FullTree nodes order) (fg : FullTree given ranks) (fo : out_bytes ≤ length out)
    (sound : SoundObjects (plan_at plan)) (sent : OfferSent plan nodes order given ranks out n nodes' order' out')
  where
    abbrev W : List ℕ
    W = offer_table plan given ranks

    abbrev NW : List ℕ
    NW = words_of_nodes given

    abbrev NF : List Float
    NF = node_floats given

    abbrev OW : List ℕ
    OW = order_words ranks

    abbrev BS : List Aabb
    BS = boxes_of (plan_at plan)

    judged : judged_tree W (seen W) ≡ judge_of 64 NW NF OW BS
    unfolding judged_tree
    judged = ask_reads 0 plan given ranks [] fg (judge_of 64) plan sound refl

    abbrev number : ℕ
    number = offer_number (offer_before plan nodes order given ranks out) W (seen W)

    number_judged : number ≡ offered_number NW NF OW BS
    unfolding offer_number offered_tree lower
    number_judged =
        let lent : Lent 0 plan [] out = record { plan_full = fp; args_full = omega arith; out_full = fo } in
        rw (
          (lent_tree_exact 0 plan nodes order [] out).1 (lent, ft),
          (tree_exact given ranks).1 fg,
          (objects_exact (plan_in W)).1 (ask_sound 0 plan given ranks [] sound),
        )
        (ask_reads 0 plan given ranks [] fg offered_number plan sound refl)

    sent_judged : n ≡ offered_number NW NF OW BS
    sent_judged = sent_number _ _ sent.sent ∙ number_judged

    long : length NW ≡ nodes_words
    long = length_words given nodes_words

    few : length BS ≤ 256
    few = omega (arith, boxes_length (plan_at plan), sound.counts.objects)

    -- ---- the tree that is taken
    module _ (t : Tree) (a : AcceptedTree plan given ranks t) where
      zero : number ≡ 0
      unfolding MeetsRules
      zero = number_judged ∙ (offered_exact NW NF OW BS long few).1 (inr (t, a))

      some : 0 < length BS
      some = omega (arith, weight_above NW NF 0 0 t a.holds.stands, a.holds.all)

      sized : size_in (judged_tree W (seen W)) ≡ size t
      sized =
          ap size_in
          (judged
          ∙ (judge_exact NW NF OW BS long few 64 some (size t) (length BS)).1
          (record {
            tree = t;
            holds = a.holds;
            low = omega (arith, a.low);
            after = refl;
            last = refl;
          }))

      taken_nodes : words_of_nodes nodes' ≡ offered_nodes W (seen W)
      taken_nodes =
          rw (sent.nodes_is, eq-eqb number 0 zero)
          (stored_words nodes (offered_nodes W (seen W)) nodes_words (length_from _ 0 nodes_words) ft.nodes_full)

      taken_order : order_words order' ≡ offered_order W (seen W)
      taken_order =
          rw (sent.order_is, eq-eqb number 0 zero)
          (stored_words order (offered_order W (seen W)) order_places (length_from _ 0 order_places) ft.order_full)

      same_tree : AcceptedTree plan nodes' order' t
      same_tree =
          let fit = stands_fit NW NF long 0 0 t a.holds.stands in
          let count : length (plan_in W).objects ≡ length BS
          = sym (boxes_length (plan_in W))
          ∙ ask_reads 0 plan given ranks [] fg (λ w f o bs. length bs) plan sound refl in
          let most = few in
          accepted_same NW (words_of_nodes nodes') OW (order_words order') BS t long
          (λ i h.
          rw (taken_nodes, sized, sym (ask_nodes 0 plan given ranks [] fg))
          (front_word_lem W (nodes_of W) nodes_first (9 * size t) nodes_words i
          (nodes_here W i (omega arith)) h (omega arith)))
          (λ i h.
          rw (taken_order, sym (ask_order 0 plan given ranks [] fg))
          (front_word_lem W (order_of W) order_first (length (plan_in W).objects) order_places i
          (order_here W i (omega arith)) (omega arith) (omega arith)))
          a

    pub offer_keeps : OfferKeeps plan given ranks out n nodes' order' out'
    unfolding MeetsRules
    offer_keeps =
        let exact = offered_exact NW NF OW BS long few in
        record {
          one = rw sent_judged (none_bad_or_deep NW NF OW BS);
          taken = rw sent_judged exact;
          deep = rw sent_judged (offered_deep NW NF OW BS long few);
          bad = rw (sent_judged, sym (boxes_length (plan_at plan))) (offered_bad NW NF OW BS long few);
          stands = λ z.
              ⊎_elim (λ none. inl none) (λ p. inr (p.0, same_tree p.0 p.1))
              (exact.0 (sym sent_judged ∙ z));
          same = same_tree;
          size_sent = λ t a. sent_word _ _ sent.sent (zero t a) (sized t a);
          none_sent = λ none.
              let e : length BS ≡ 0 = boxes_length (plan_at plan) ∙ none in
              sent_word _ _ sent.sent (number_judged ∙ exact.1 (inl e))
              (ap size_in (judged ∙ sym (judge_none 64 NW NF OW BS (length BS) refl e)));
        }
