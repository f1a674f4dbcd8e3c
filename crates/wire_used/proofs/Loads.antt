-- What each part that is loaded leaves of a table, place by place, and that the parts together have the words of the
-- whole table wherever it matters: a part has its source's words inside, and what stood before outside. Assumes
-- nothing.
use Prim.Native.Nat.{ℕ, ◌+◌, ◌*◌, ◌-◌, ◌<◌, ◌≤◌}
use mathlib.Core.Path.{◌≡◌, refl, sym, ◌∙◌, ap}
use mathlib.Core.Logic.{◌⊎◌, inl, inr, ⊎_elim}
use mathlib.Core.List.{List, []}
use native.Mathlib.Decide.{dec_le}
use native.Mathlib.Omega.{arith}
use lib.ListN.{length, drop, get_or-eq_default}
use lib.Ieee.{Float, nan, binary32, of_bits}
use Rattle.scalar.specs.F32.{f0}
use Rattle.words.specs.Words.{word_at, float_at}
use Rattle.words.proofs.Runs.{length_from, word_past}
use Rattle.plan.specs.Records.{word_of, float_of}
use Rattle.plan.specs.Plan.{seen}
use Rattle.plan.proofs.Rows.{float_of_lem}
use Rattle.wire.specs.Lent.{table_of}
use Rattle.wire.specs.Inside.Parts.{loaded_part}
use Rattle.wire.proofs.Loads.{table_loaded}
use Rattle.wire_used.specs.Inside.Used.{Seen, Shown, Put, Filled, EndsBy, Begins, InOrder, Early, Listed}
use Rattle.wire_used.specs.Inside.Used.{WithCutters, Begun, Used, Spared}
use Rattle.wire_used.proofs.Parts.{List-ext, part_long, part_before, part_in, part_after, word_drop}

-- cutters that end at a place end at any later one
ends_more : (w : List ℕ) (u e r : ℕ) → u ≤ e → EndsBy w u r → EndsBy w e r
ends_more w u e r h (inl z) = inl z
ends_more w u e r h (inr l) = inr (omega (arith, h, l))

-- in a range, or outside it
side : (from to i : ℕ) → ((from ≤ i) × (i < to)) ⊎ ((i < from) ⊎ (to ≤ i))
side from to i =
    elim (dec_le from i) [
      | yes a ↦ elim (dec_le to i) [ yes b ↦ inr (inr b) | no b ↦ inl (a, omega (arith, b)) ]
      | no a ↦ inr (inl (omega (arith, a)))
    ]

-- ---- one part
module _ (t w x : List ℕ) (f g : List Float) (from to : ℕ) (h : from ≤ to) (k : to ≤ 27296) (l : length w ≡ 27296)
    (e : x ≡ loaded_part t w from to) (s : Seen x f g from to) where
  room : to ≤ length w
  room = omega (arith, k, l)

  outside : (i : ℕ) → (i < from) ⊎ (to ≤ i) → word_of x i ≡ word_of w i
  outside i a = ⊎_elim (part_before t w x from to h room e i) (part_after t w x from to h room e i) a

  pub put_law : Put (λ i. word_at t (i - from)) w x f g from to
  put_law =
      record {
        inside = part_in t w x from to h room e;
        outside = outside;
        shown = λ z. record {
          long = part_long t w x from to h room e ∙ l;
          wide = s.long;
          each = λ i b.
              ⊎_elim (λ a. s.inside i a.0 a.1)
              (λ a. s.outside i a ∙ z.each i b ∙ ap (of_bits binary32) (sym (outside i a))) (side from to i);
        };
      }

-- of the plan, from a row on
pub rows_law
    : (plan b w x : List ℕ) (f g : List Float) (first to : ℕ) → b ≡ drop (64 * first) plan
    → Put (λ i. word_at b (i - 16 * first)) w x f g (16 * first) to → Put (word_at plan) w x f g (16 * first) to
rows_law plan b w x f g first to e p =
    let at : 64 * first ≡ 4 * (16 * first) = omega arith in
    record {
      inside = λ i k l.
          let back : 16 * first + (i - 16 * first) ≡ i = omega (arith, k) in
          p.inside i k l ∙ ap (λ (c : List ℕ). word_at c (i - 16 * first)) e
          ∙ ap (λ (n : ℕ). word_at (drop n plan) (i - 16 * first)) at ∙ word_drop plan (16 * first) (i - 16 * first)
          ∙ ap (word_at plan) back;
      outside = p.outside;
      shown = p.shown;
    }

-- ---- parts one after the other
pub more
    : {P Q : ℕ → Type 0} {source : ℕ → ℕ} (t w x : List ℕ) (f g : List Float) (from to : ℕ) → Filled t w f P
    → Put source w x f g from to → ((i : ℕ) → from ≤ i → i < to → source i ≡ word_of t i)
    → ((i : ℕ) → Q i → P i ⊎ ((from ≤ i) × (i < to))) → Filled t x g Q
more t w x f g from to filled p agree cover =
    record {
      same = λ i q.
          ⊎_elim (λ a. p.inside i a.0 a.1 ∙ agree i a.0 a.1)
          (λ a.
          p.outside i a ∙
          ⊎_elim (λ c. filled.same i c)
          (λ c. let no : ⊥ = ⊎_elim (λ d. omega (arith, c.0, d)) (λ d. omega (arith, c.1, d)) a in absurd no)
          (cover i q))
          (side from to i);
      shown = p.shown filled.shown;
    }

-- ---- the lists, after counts, arguments and order
in_order_as : (t w : List ℕ) (f : List Float) (m : ℕ) → Filled t w f Early → InOrder w m → InOrder t m
in_order_as t w f m filled o =
    let count : (i : ℕ) → i < 16 → word_of w i ≡ word_of t i = λ i h. filled.same i (inl (inl h)) in
    record {
      materials = rw (← (count 0 (omega arith))) o.materials;
      planes = rw (← (count 1 (omega arith))) o.planes;
      lights = rw (← (count 2 (omega arith))) o.lights;
      objects = o.objects;
      order = λ i h. rw (← (filled.same (27031 + i) (inr (omega arith)))) (o.order i h);
    }

pub early_kept : (t w : List ℕ) (f : List Float) (m : ℕ) → Filled t w f (Listed t m) → Filled t w f Early
early_kept t w f m filled = record { same = λ i q. filled.same i (inl (inl (inl (inl q)))); shown = filled.shown }

pub begun_again
    : (plan nodes t w x : List ℕ) (f g : List Float) → Begun plan nodes t w f → Filled t x g Early
    → Begun plan nodes t x g
begun_again plan nodes t w x f g b filled =
    record { whole = b.whole; filled = filled; plan_is = b.plan_is; nodes_are = b.nodes_are }

-- ---- what is used, after the lists
module _ (plan nodes t w w1 w2 x : List ℕ) (f f1 f2 g : List Float) (m e n u v q : ℕ)
    (b : Begun plan nodes t w f) (o : InOrder w m) (few : word_of w 3 ≤ m) (listed : Filled t w1 f1 (Listed t m))
    (a1 : n ≡ word_of w1 1) (ends : (j : ℕ) → j < m → EndsBy w1 u (113 + j)) (low : u ≤ 1024)
    (planes_end : (j : ℕ) → j < n → EndsBy w1 q (65 + j)) (last : q ≤ 1024)
    (e1 : e ≤ 27031) (e2 : (i : ℕ) → i < 22432 + 18 * m → i < 27031 → i < e)
    (p : Put (λ i. word_at nodes (i - 22432)) w1 w2 f1 f2 22432 e)
    (begins : (j : ℕ) → j < n → Begins w1 v (65 + j)) (c : WithCutters (word_at plan) w2 x f2 g u v) where
  filled : Filled t w2 f2 (λ i. Listed t m i ⊎ ((22432 ≤ i) × (i < e)))
  filled =
      more t w1 w2 f1 f2 22432 e listed p (λ i h k. b.nodes_are i h (omega (arith, k, e1))) (λ i q. q)

  -- what stands outside the cutters' places stays
  kept
      : (i : ℕ) → (i < 5904) ⊎ (22288 ≤ i) → Listed t m i ⊎ ((22432 ≤ i) × (i < e)) → word_of x i ≡ word_of t i
  kept i a q = c.outside i a ∙ filled.same i q

  in_order : InOrder t m
  in_order = in_order_as t w f m b.filled o

  n_is : n ≡ word_of t 1
  n_is = a1 ∙ listed.same 1 (inl (inl (inl (inl (inl (inl (omega arith)))))))

  -- the head of a piece
  plane_word : (j k : ℕ) → j < n → k < 16 → word_of w1 (16 * (65 + j) + k) ≡ word_of t (16 * (65 + j) + k)
  plane_word j k h l =
      listed.same (16 * (65 + j) + k) (inl (inl (inr (omega arith, omega (arith, h, l, n_is)))))

  object_word : (j k : ℕ) → j < m → k < 16 → word_of w1 (16 * (113 + j) + k) ≡ word_of t (16 * (113 + j) + k)
  object_word j k h l = listed.same (16 * (113 + j) + k) (inr (omega arith, omega (arith, h, l)))

  -- the places of the lists lie outside those of the cutters
  apart : (i : ℕ) → Listed t m i → (i < 5904) ⊎ (22288 ≤ i)
  apart i a =
      let mo = in_order.materials in
      let po = in_order.planes in
      let lo = in_order.lights in
      let oo = in_order.objects in
      ⊎_elim
      (⊎_elim
      (⊎_elim
      (⊎_elim
      (⊎_elim (⊎_elim (λ h. inl (omega (arith, h))) (λ h. inr h.0)) (λ h. inr (omega (arith, h))))
      (λ h. inl (omega (arith, h.1, mo))))
      (λ h. inl (omega (arith, h.1, po))))
      (λ h. inl (omega (arith, h.1, lo))))
      (λ h. inl (omega (arith, h.1, oo))) a

  lists : (i : ℕ) → Listed t m i → word_of x i ≡ word_of t i
  lists i a = kept i (apart i a) (inl a)

  used : Used t x m
  used =
      record {
        in_order = in_order;
        objects = rw (← (b.filled.same 3 (inl (inl (omega arith))))) few;
        u = u;
        v = v;
        most = low;
        ends = λ j h. rw (← (object_word j 2 h (omega arith)), ← (object_word j 12 h (omega arith))) (ends j h);
        begins = λ j h.
            let k : j < n = omega (arith, h, n_is) in
            rw (← (plane_word j 2 k (omega arith)), ← (plane_word j 12 k (omega arith))) (begins j k);
        planes_end = λ j h.
            let k : j < n = omega (arith, h, n_is) in
            rw (← (plane_word j 2 k (omega arith)), ← (plane_word j 12 k (omega arith)))
            (ends_more w1 q 1024 (65 + j) last (planes_end j k));
        lists = lists;
        front = λ i h k. c.front i h k ∙ b.plan_is i (omega (arith, k, low));
        back = λ i h k. c.back i h k ∙ b.plan_is i k;
        nodes = λ i h k l. kept i (inr (omega (arith, h))) (inr (h, e2 i k l));
      }

  pub used_law : Spared t x × Filled t x g Early
  used_law =
      let all : Filled t x g Early
      = record { same = λ i a. lists i (inl (inl (inl (inl a)))); shown = c.shown filled.shown } in
      (record { long = all.shown.long; whole = b.whole; early = all.same; rest = inr (m, used) }, all)

-- ---- the whole table, word by word: it is what loading all of it into any table makes
module _ (plan args nodes order z : List ℕ) (l : length z ≡ 27296) where
  abbrev t1 : List ℕ
  t1 = loaded_part plan z 0 22288

  abbrev t2 : List ℕ
  t2 = loaded_part args t1 22288 22432

  abbrev t3 : List ℕ
  t3 = loaded_part nodes t2 22432 27031

  abbrev t4 : List ℕ
  t4 = loaded_part order t3 27031 27287

  abbrev t5 : List ℕ
  t5 = loaded_part [] t4 27287 27296

  m1 : length t1 ≡ 27296
  m1 = part_long plan z t1 0 22288 (omega arith) (omega (arith, l)) refl ∙ l

  m2 : length t2 ≡ 27296
  m2 = part_long args t1 t2 22288 22432 (omega arith) (omega (arith, m1)) refl ∙ m1

  m3 : length t3 ≡ 27296
  m3 = part_long nodes t2 t3 22432 27031 (omega arith) (omega (arith, m2)) refl ∙ m2

  m4 : length t4 ≡ 27296
  m4 = part_long order t3 t4 27031 27287 (omega arith) (omega (arith, m3)) refl ∙ m3

  abbrev t : List ℕ
  t = table_of plan args nodes order

  table : t5 ≡ t
  table = table_loaded plan args nodes order [] z t1 t2 t3 t4 t5 l refl refl refl refl refl refl

  pub table_long : length t ≡ 27296
  table_long = ap length (sym table) ∙ part_long [] t4 t5 27287 27296 (omega arith) (omega (arith, m4)) refl ∙ m4

  from4 : (i : ℕ) → i < 27287 → word_of t i ≡ word_of t4 i
  from4 i k =
      ap (λ (c : List ℕ). word_of c i) (sym table)
      ∙ part_before [] t4 t5 27287 27296 (omega arith) (omega (arith, m4)) refl i k

  from3 : (i : ℕ) → i < 27031 → word_of t i ≡ word_of t3 i
  from3 i k =
      from4 i (omega (arith, k)) ∙ part_before order t3 t4 27031 27287 (omega arith) (omega (arith, m3)) refl i k

  from2 : (i : ℕ) → i < 22432 → word_of t i ≡ word_of t2 i
  from2 i k =
      from3 i (omega (arith, k)) ∙ part_before nodes t2 t3 22432 27031 (omega arith) (omega (arith, m2)) refl i k

  pub spare_word : (i : ℕ) → 27287 ≤ i → word_of t i ≡ 0
  spare_word i h =
      elim (dec_le 27296 i) [
        | yes a ↦ let long = table_long in get_or-eq_default t 0 {n = i} (omega (arith, a, long))
        | no a ↦
            ap (λ (c : List ℕ). word_of c i) (sym table)
            ∙ part_in [] t4 t5 27287 27296 (omega arith) (omega (arith, m4)) refl i h (omega (arith, a))
            ∙ sym (word_past [] (i - 27287) (omega arith))
      ]

  pub plan_word : (i : ℕ) → i < 22288 → word_at plan i ≡ word_of t i
  plan_word i k =
      sym (from2 i (omega (arith, k))
      ∙ part_before args t1 t2 22288 22432 (omega arith) (omega (arith, m1)) refl i k
      ∙ part_in plan z t1 0 22288 (omega arith) (omega (arith, l)) refl i (omega arith) k
      ∙ ap (word_at plan) (omega arith))

  pub args_word : (i : ℕ) → 22288 ≤ i → i < 22432 → word_at args (i - 22288) ≡ word_of t i
  args_word i h k = sym (from2 i k ∙ part_in args t1 t2 22288 22432 (omega arith) (omega (arith, m1)) refl i h k)

  pub nodes_word : (i : ℕ) → 22432 ≤ i → i < 27031 → word_at nodes (i - 22432) ≡ word_of t i
  nodes_word i h k = sym (from3 i k ∙ part_in nodes t2 t3 22432 27031 (omega arith) (omega (arith, m2)) refl i h k)

  pub order_word : (i : ℕ) → 27031 ≤ i → i < 27287 → word_at order (i - 27031) ≡ word_of t i
  order_word i h k = sym (from4 i k ∙ part_in order t3 t4 27031 27287 (omega arith) (omega (arith, m3)) refl i h k)

-- ---- a new table, with counts, arguments and order
from_order : (i : ℕ) → 27031 ≤ i → (27287 ≤ i) ⊎ ((27031 ≤ i) × (i < 27287))
from_order i a = elim (dec_le 27287 i) [ yes c ↦ inl c | no c ↦ inr (a, omega (arith, c)) ]

module _ (plan args nodes order z w1 w2 w : List ℕ) (k f1 f2 f : List Float) (l : length z ≡ 27296)
    (n : length k ≡ 27296) (zero : (i : ℕ) → word_of z i ≡ 0) (none : (i : ℕ) → i < 27296 → float_of k i ≡ f0)
    (p1 : Put (word_at plan) z w1 k f1 (16 * 0) (16 * (0 + 1)))
    (p2 : Put (λ i. word_at args (i - 22288)) w1 w2 f1 f2 22288 22432)
    (p3 : Put (λ i. word_at order (i - 27031)) w2 w f2 f 27031 27287) where
  abbrev whole : List ℕ
  whole = table_of plan args nodes order

  -- what no part covers is 0 in both
  new : Filled whole z k (λ i. 27287 ≤ i)
  unfolding of_bits
  new =
      record {
        same = λ i h. zero i ∙ sym (spare_word plan args nodes order z l i h);
        shown = record { long = l; wide = n; each = λ i h. none i h ∙ ap (of_bits binary32) (sym (zero i)) };
      }

  early : Filled whole w f Early
  early =
      more whole w2 w f2 f 27031 27287
      (more {Q = λ i. ((i < 16) ⊎ ((22288 ≤ i) × (i < 22432))) ⊎ (27287 ≤ i)} whole w1 w2 f1 f2 22288 22432
      (more {Q = λ i. (i < 16) ⊎ (27287 ≤ i)} whole z w1 k f1 (16 * 0) (16 * (0 + 1)) new p1
      (λ i _ h. plan_word plan args nodes order z l i (omega (arith, h)))
      (λ i q. ⊎_elim (λ a. inr (omega arith, omega (arith, a))) (λ a. inl a) q)) p2
      (λ i h g. args_word plan args nodes order z l i h g)
      (λ i q. ⊎_elim (λ a. ⊎_elim (λ b. inl (inl b)) (λ b. inr b) a) (λ a. inl (inr a)) q)) p3
      (λ i h g. order_word plan args nodes order z l i h g)
      (λ i q.
      ⊎_elim (λ a. inl (inl a)) (λ a. ⊎_elim (λ b. inl (inr b)) (λ b. inr b) (from_order i a)) q)

  pub begun : Begun plan nodes whole w f
  begun =
      record {
        whole = table_long plan args nodes order z l;
        filled = early;
        plan_is = plan_word plan args nodes order z l;
        nodes_are = nodes_word plan args nodes order z l;
      }

pub all_seen : (w : List ℕ) (f : List Float) → Shown w f → f ≡ seen w
all_seen w f s =
    let wide = s.wide in
    List-ext nan f (seen w) (wide ∙ sym (length_from (float_at w) 0 27296))
    (λ i k. let j : i < 27296 = omega (arith, k, wide) in s.each i j ∙ sym (float_of_lem w i j))
