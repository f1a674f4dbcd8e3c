-- A call that asks reads the same of a table that is loaded as far as it is used as of the whole one: no piece of the
-- plan, and none that the order names, has a cutter among those left out, and no tree of so many objects a node.
-- Assumes nothing.
use Prim.Native.Nat.{ℕ, ◌+◌, ◌*◌, ◌<◌, ◌≤◌}
use mathlib.Core.Path.{◌≡◌, sym, subst, ◌∙◌, ap}
use mathlib.Core.Logic.{inl, inr, ⊎_elim}
use mathlib.Core.List.{List}
use native.Mathlib.Decide.{dec_le}
use native.Mathlib.Omega.{arith}
use lib.ListN.{length, take, drop, get_or, length-drop, get_or-eq_default}
use lib.Seq.{get_or-take, get_or-drop, length-take-le}
use lib.Ieee.{nan}
use Rattle.words.specs.Words.{float_at}
use Rattle.words.proofs.Runs.{length_from, get_d_from}
use Rattle.plan.specs.Records.{word_of, float_of, head_at}
use Rattle.plan.specs.Plan.{Piece, piece_at, pieces_from, plan_of, seen}
use Rattle.plan.proofs.Rows.{Alike, Kept, kept, float_of_lem, materials_kept, lights_kept, pieces-Kept}
use Rattle.bvh_rules.specs.Nodes.{nodes_of, order_of, node_at}
use Rattle.bvh_search.specs.Search.{piece_in}
use Rattle.bvh_search.proofs.Same.{Same, Trimmed}
use Rattle.wire_used.specs.Inside.Used.{EndsBy, Begins, Used, Spared}
use Rattle.wire_used.proofs.Parts.{List-ext}

-- the part of a table that has so many words from a place on
part_long : {A : Type 0} (x : List A) (k n : ℕ) → k + n ≤ length x → length (take n (drop k x)) ≡ n
part_long x k n h = let a = length-drop k x in length-take-le n (drop k x) (omega (arith, h, a))

-- members of such parts, wherever they are
member
    : {A : Type 0} (d : A) (x y : List A) (k n i : ℕ) → k + n ≤ length x → k + n ≤ length y
    → (i < n → get_or x (k + i) d ≡ get_or y (k + i) d) → get_or (take n (drop k x)) i d ≡ get_or (take n (drop k y)) i d
member d x y k n i lx ly h =
    elim (dec_le n i) [
      | yes a ↦
          let p = part_long x k n lx in
          let q = part_long y k n ly in
          get_or-eq_default (take n (drop k x)) d {n = i} (omega (arith, a, p))
          ∙ sym (get_or-eq_default (take n (drop k y)) d {n = i} (omega (arith, a, q)))
      | no a ↦
          let b : i < n = omega (arith, a) in
          get_or-take n (drop k x) i d b ∙ get_or-drop k x i d ∙ h b
          ∙ sym (get_or-take n (drop k y) i d b ∙ get_or-drop k y i d)
    ]

-- parts whose members agree
Part-same
    : {A : Type 0} (d : A) (x y : List A) (k n : ℕ) → k + n ≤ length x → k + n ≤ length y
    → ((i : ℕ) → k ≤ i → i < k + n → get_or x i d ≡ get_or y i d) → take n (drop k x) ≡ take n (drop k y)
Part-same d x y k n lx ly h =
    List-ext d (take n (drop k x)) (take n (drop k y)) (part_long x k n lx ∙ sym (part_long y k n ly))
    (λ i _. member d x y k n i lx ly (λ b. h (k + i) (omega arith) (omega (arith, b))))

-- ---- the plan of a table, by the rows that are kept
module _ (t w : List ℕ) (counts : (i : ℕ) → i < 4 → word_of t i ≡ word_of w i)
    (materials : (j : ℕ) → j < word_of w 0 → Kept t w (1 + j))
    (planes : (j : ℕ) → j < word_of w 1 → Kept t w (65 + j))
    (plane-cuts : (j : ℕ) → j < word_of w 1 → (k : ℕ) → k < (head_at w (seen w) (65 + j)).cutters
    → Kept t w (369 + (head_at w (seen w) (65 + j)).place + k))
    (lights : (l : ℕ) → l < word_of w 2 → Kept t w (81 + 2 * l))
    (objects : (j : ℕ) → j < word_of w 3 → Kept t w (113 + j))
    (object-cuts : (j : ℕ) → j < word_of w 3 → (k : ℕ) → k < (head_at w (seen w) (113 + j)).cutters
    → Kept t w (369 + (head_at w (seen w) (113 + j)).place + k)) where
  plan_kept : plan_of w (seen w) ≡ plan_of t (seen t)
  unfolding plan_of
  plan_kept =
      rw (
        counts 0 (omega arith),
        counts 1 (omega arith),
        counts 2 (omega arith),
        counts 3 (omega arith),
        materials_kept t w (word_of w 0) materials,
        pieces-Kept t w 65 (word_of w 1) planes plane-cuts,
        lights_kept t w (word_of w 2) lights,
        pieces-Kept t w 113 (word_of w 3) objects object-cuts,
      )

-- ---- one piece
piece_kept
    : (t w : List ℕ) (r : ℕ) → Kept t w r
    → ((k : ℕ) → k < (head_at w (seen w) r).cutters → Kept t w (369 + (head_at w (seen w) r).place + k))
    → piece_at w (seen w) r ≡ piece_at t (seen t) r
unfolding pieces_from
piece_kept t w r h c =
    let z : r + 0 ≡ r = omega arith in
    let one : (j : ℕ) → j < 1 → r + j ≡ r = λ j p. omega (arith, p) in
    let e : pieces_from t (seen t) r 1 ≡ pieces_from w (seen w) r 1
    = pieces-Kept t w r 1 (λ j p. subst (Kept t w) (sym (one j p)) h)
    (λ j p. subst
    (λ (s : ℕ). (k : ℕ) → k < (head_at w (seen w) s).cutters → Kept t w (369 + (head_at w (seen w) s).place + k))
    (sym (one j p)) c) in
    let none : Piece = piece_at w (seen w) r in
    ap (piece_at w (seen w)) (sym z) ∙ sym (get_d_from (piece_at w (seen w)) r 1 0 none (omega arith))
    ∙ ap (λ (l : List Piece). get_or l 0 none) (sym e) ∙ get_d_from (piece_at t (seen t)) r 1 0 none (omega arith)
    ∙ ap (piece_at t (seen t)) z

seen_long : (x : List ℕ) → length (seen x) ≡ 27296
seen_long x = length_from (float_at x) 0 27296

-- floats are alike where words are
float_same : (t w : List ℕ) (i : ℕ) → i < 27296 → word_of w i ≡ word_of t i → float_of (seen w) i ≡ float_of (seen t) i
float_same t w i b e = rw (float_of_lem w i b, float_of_lem t i b, e)

-- ---- the heads and cutters that are used
module _ (t w : List ℕ) (m : ℕ) (x : Used t w m) where
  material_row : (j : ℕ) → j < word_of t 0 → Kept w t (1 + j)
  material_row j h =
      kept w t (1 + j)
      (λ k p. x.lists (16 * (1 + j) + k) (inl (inl (inl (inr (omega arith, omega (arith, h, p)))))))

  plane_row : (j : ℕ) → j < word_of t 1 → Kept w t (65 + j)
  plane_row j h =
      kept w t (65 + j)
      (λ k p. x.lists (16 * (65 + j) + k) (inl (inl (inr (omega arith, omega (arith, h, p))))))

  light_row : (l : ℕ) → l < word_of t 2 → Kept w t (81 + 2 * l)
  light_row l h =
      kept w t (81 + 2 * l)
      (λ k p. x.lists (16 * (81 + 2 * l) + k) (inl (inr (omega arith, omega (arith, h, p)))))

  object_row : (j : ℕ) → j < m → Kept w t (113 + j)
  object_row j h =
      kept w t (113 + j) (λ k p. x.lists (16 * (113 + j) + k) (inr (omega arith, omega (arith, h, p))))

  front_row : (r : ℕ) → 369 ≤ r → r < 369 + x.u → Kept w t r
  front_row r h g = kept w t r (λ k p. x.front (16 * r + k) (omega (arith, h)) (omega (arith, g, p)))

  back_row : (r : ℕ) → 369 + x.v ≤ r → r < 1393 → Kept w t r
  back_row r h g = kept w t r (λ k p. x.back (16 * r + k) (omega (arith, h)) (omega (arith, g, p)))

  front_cuts
      : (r : ℕ) → EndsBy t x.u r → (k : ℕ) → k < (head_at t (seen t) r).cutters
      → Kept w t (369 + (head_at t (seen t) r).place + k)
  unfolding head_at
  front_cuts r (inl z) k h = let no : ⊥ = omega (arith, z, h) in absurd no
  front_cuts r (inr a) k h = front_row (369 + word_of t (16 * r + 12) + k) (omega arith) (omega (arith, a, h))

  back_cuts
      : (r : ℕ) → Begins t x.v r → EndsBy t 1024 r → (k : ℕ) → k < (head_at t (seen t) r).cutters
      → Kept w t (369 + (head_at t (seen t) r).place + k)
  unfolding head_at
  back_cuts r (inl z) e k h = let no : ⊥ = omega (arith, z, h) in absurd no
  back_cuts r (inr a) (inl z) k h = let no : ⊥ = omega (arith, z, h) in absurd no
  back_cuts r (inr a) (inr b) k h =
      back_row (369 + word_of t (16 * r + 12) + k) (omega (arith, a)) (omega (arith, b, h))

  used_plan : plan_of t (seen t) ≡ plan_of w (seen w)
  used_plan =
      let few = x.objects in
      plan_kept w t (λ i h. x.lists i (inl (inl (inl (inl (inl (inl (omega (arith, h)))))))))
      material_row plane_row (λ j p. back_cuts (65 + j) (x.begins j p) (x.planes_end j p)) light_row
      (λ j p. object_row j (omega (arith, p, few))) (λ j p. front_cuts (113 + j) (x.ends j (omega (arith, p, few))))

  -- the objects that the order names
  named : length t ≡ 27296 → (i : ℕ) → word_of (order_of t) i < m
  unfolding order_of
  named long i =
      let order = x.in_order.order in
      elim (dec_le 256 i) [
        | yes a ↦
            let l = part_long t 27031 256 (omega (arith, long)) in
            let z : word_of (take 256 (drop 27031 t)) i ≡ 0
            = get_or-eq_default (take 256 (drop 27031 t)) 0 {n = i} (omega (arith, a, l)) in
            let first = order 0 (omega arith) in
            omega (arith, z, first)
        | no a ↦
            let b : i < 256 = omega (arith, a) in
            let e : word_of (take 256 (drop 27031 t)) i ≡ word_of t (27031 + i)
            = get_or-take 256 (drop 27031 t) i 0 b ∙ get_or-drop 27031 t i 0 in
            let last = order i b in
            omega (arith, e, last)
      ]

  used_piece : (o : ℕ) → o < m → piece_at t (seen t) (113 + o) ≡ piece_at w (seen w) (113 + o)
  used_piece o h = piece_kept w t (113 + o) (object_row o h) (front_cuts (113 + o) (x.ends o h))

  -- ---- the nodes that a tree of the objects may have
  module _ (lw : length w ≡ 27296) (lt : length t ≡ 27296) where
    node_word : (i : ℕ) → i < 18 * m → word_of (nodes_of w) i ≡ word_of (nodes_of t) i
    unfolding nodes_of
    node_word i h =
        member 0 w t 22432 4599 i (omega (arith, lw)) (omega (arith, lt))
        (λ b. x.nodes (22432 + i) (omega arith) (omega (arith, h)) (omega (arith, b)))

    node_float : (i : ℕ) → i < 18 * m → float_of (nodes_of (seen w)) i ≡ float_of (nodes_of (seen t)) i
    unfolding nodes_of
    node_float i h =
        let sw = seen_long w in
        let st = seen_long t in
        member nan (seen w) (seen t) 22432 4599 i (omega (arith, sw)) (omega (arith, st))
        (λ b.
        float_same t w (22432 + i) (omega (arith, b))
        (x.nodes (22432 + i) (omega arith) (omega (arith, h)) (omega (arith, b))))

    used_node
        : (a : ℕ) → a < 2 * m → node_at (nodes_of w) (nodes_of (seen w)) a ≡ node_at (nodes_of t) (nodes_of (seen t)) a
    unfolding node_at
    used_node a h =
        rw (
          node_float (9 * a) (omega (arith, h)),
          node_float (9 * a + 1) (omega (arith, h)),
          node_float (9 * a + 2) (omega (arith, h)),
          node_float (9 * a + 3) (omega (arith, h)),
          node_float (9 * a + 4) (omega (arith, h)),
          node_float (9 * a + 5) (omega (arith, h)),
          node_word (9 * a + 6) (omega (arith, h)),
          node_word (9 * a + 7) (omega (arith, h)),
          node_word (9 * a + 8) (omega (arith, h)),
        )

    trimmed : Trimmed w t (seen w) (seen t)
    unfolding nodes_of
    trimmed =
        let few = x.objects in
        let most = x.in_order.objects in
        record {
          few = omega (arith, few, most);
          long_v = part_long w 22432 4599 (omega (arith, lw));
          long_w = part_long t 22432 4599 (omega (arith, lt));
          node = λ a h. used_node a (omega (arith, h, few));
        }

module _ (t w : List ℕ) (s : Spared t w) where
  -- ---- where all is loaded
  module _ (all : (i : ℕ) → word_of w i ≡ word_of t i) where
    row : (r : ℕ) → Kept w t r
    row r = kept w t r (λ k p. all (16 * r + k))

    whole_plan : plan_of t (seen t) ≡ plan_of w (seen w)
    whole_plan =
        plan_kept w t (λ i _. all i) (λ j _. row (1 + j)) (λ j _. row (65 + j))
        (λ j _ k _. row (369 + (head_at t (seen t) (65 + j)).place + k)) (λ l _. row (81 + 2 * l)) (λ j _. row (113 + j))
        (λ j _ k _. row (369 + (head_at t (seen t) (113 + j)).place + k))

    whole_piece : (r : ℕ) → piece_at t (seen t) r ≡ piece_at w (seen w) r
    whole_piece r = piece_kept w t r (row r) (λ k _. row (369 + (head_at t (seen t) r).place + k))

    whole_nodes : nodes_of w ≡ nodes_of t
    unfolding nodes_of
    whole_nodes =
        let l = s.long in
        let k = s.whole in
        Part-same 0 w t 22432 4599 (omega (arith, l)) (omega (arith, k)) (λ i h g. all i)

    whole_hulls : nodes_of (seen w) ≡ nodes_of (seen t)
    unfolding nodes_of
    whole_hulls =
        let l = seen_long w in
        let k = seen_long t in
        Part-same nan (seen w) (seen t) 22432 4599 (omega (arith, l)) (omega (arith, k))
        (λ i h g. float_same t w i (omega (arith, g)) (all i))

  order_same : order_of w ≡ order_of t
  unfolding order_of
  order_same =
      let l = s.long in
      let k = s.whole in
      Part-same 0 w t 27031 256 (omega (arith, l)) (omega (arith, k)) (λ i h g. s.early i (inr h))

  piece_same : (i : ℕ) → piece_in w (seen w) (order_of t) i ≡ piece_in t (seen t) (order_of t) i
  unfolding piece_in
  piece_same i =
      let o : ℕ = word_of (order_of t) i in
      ⊎_elim
      (λ all. sym (whole_piece all (113 + o)))
      (λ x. sym (used_piece t w x.0 x.1 o (named t w x.0 x.1 s.whole i)))
      s.rest

  pub spared_same : Same w t (seen w) (seen t)
  spared_same =
      record {
        plan = ⊎_elim (λ all. sym (whole_plan all)) (λ x. sym (used_plan t w x.0 x.1)) s.rest;
        count = s.early 3 (inl (inl (omega arith)));
        tree =
            ⊎_elim (λ all. inl (whole_nodes all, whole_hulls all))
            (λ x. inr (trimmed t w x.0 x.1 s.long s.whole)) s.rest;
        order = order_same;
        piece = piece_same;
      }

  pub spared_args : Alike 16 w t (seen w) (seen t) 1393 1393
  spared_args = kept w t 1393 (λ k p. s.early (16 * 1393 + k) (inl (inr (omega arith, omega (arith, p)))))
