-- A row written from the arguments decodes to what the arguments do, though words that a kind does not use are written
-- 0. Kind by kind. Assumes nothing.
use Prim.Native.Nat.{ℕ, zero, suc, ◌+◌, ◌*◌, ◌<◌, ◌≤◌}
use mathlib.Core.Path.{◌≡◌, refl, sym, ◌∙◌, ap}
use mathlib.Core.Bool.{Bool, true, false, cond, ◌||◌}
use mathlib.Core.List.{List}
use native.Mathlib.Nat.{add-zero}
use native.Mathlib.Omega.{arith}
use lib.ListN.{get_or}
use lib.Dec.{eqb}
use lib.Ieee.{Float, binary32, of_bits}
use borrow.Author.Tests.{lt-ltb}
use Rattle.sdf.specs.declared.Shape.{Shape}
use Rattle.refusals.specs.Prims.{shape_of}
use Rattle.words.specs.Lists.{list_from}
use Rattle.words.proofs.Runs.{from_same, get_d_from}
use Rattle.plan.specs.declared.Head.{Head}
use Rattle.plan.specs.Sections.{args_row}
use Rattle.plan.specs.Records.{word_of, float_of, prim_of, cutter_at, head_at}
use Rattle.plan.specs.Plan.{Cuts, cuts_by, piece_at, seen}
use Rattle.plan.proofs.Rows.{float_of_lem, Alike, moved}
use Rattle.plan_write.specs.Written.{arg_word, arg_cuts, used_words, used_word, piece_words, cutter_words, first_word}
use Rattle.plan_write.specs.Written.{record_words}
use Rattle.plan_entry.specs.After.{placed, given_piece}

-- ---- a primitive by its words: g 1 to g 8 the eight
abbrev fl : ℕ → Float
fl x = of_bits binary32 x

abbrev shape8 : ℕ → (ℕ → ℕ) → Shape
shape8 k g =
    shape_of k
    (record { x = fl (g 1); y = fl (g 2); z = fl (g 3) })
    (record { x = fl (g 4); y = fl (g 5); z = fl (g 6) })
    (fl (g 7))
    (fl (g 8))

prim_words
    : (w : List ℕ) (i : ℕ) → i + 8 < 27296
    → prim_of w (seen w) i ≡ shape8 (word_of w i) (λ k. word_of w (i + k))
prim_words w i h =
    rw (
      float_of_lem w (i + 1) (omega arith),
      float_of_lem w (i + 2) (omega arith),
      float_of_lem w (i + 3) (omega arith),
      float_of_lem w (i + 4) (omega arith),
      float_of_lem w (i + 5) (omega arith),
      float_of_lem w (i + 6) (omega arith),
      float_of_lem w (i + 7) (omega arith),
      float_of_lem w (i + 8) (omega arith),
    )

-- words that a kind does not use are not looked at
shape_used
    : (k : ℕ) (g h : ℕ → ℕ)
    → k ≤ 6
    → ((j : ℕ) → j < used_words k → g (suc j) ≡ h (suc j))
    → shape8 k g ≡ shape8 k h
unfolding shape_of used_words
shape_used zero g h l e =
    rw (e 0 (omega arith), e 1 (omega arith), e 2 (omega arith), e 3 (omega arith))
shape_used (suc zero) g h l e =
    rw (
      e 0 (omega arith),
      e 1 (omega arith),
      e 2 (omega arith),
      e 3 (omega arith),
      e 4 (omega arith),
      e 5 (omega arith),
      e 6 (omega arith),
    )
shape_used (suc (suc zero)) g h l e =
    rw (e 0 (omega arith), e 1 (omega arith), e 2 (omega arith), e 3 (omega arith))
shape_used (suc (suc (suc zero))) g h l e =
    rw (
      e 0 (omega arith),
      e 1 (omega arith),
      e 2 (omega arith),
      e 3 (omega arith),
      e 4 (omega arith),
      e 5 (omega arith),
      e 6 (omega arith),
    )
shape_used (suc (suc (suc (suc zero)))) g h l e =
    rw (e 0 (omega arith), e 1 (omega arith), e 2 (omega arith), e 3 (omega arith), e 4 (omega arith))
shape_used (suc (suc (suc (suc (suc zero))))) g h l e =
    rw (
      e 0 (omega arith),
      e 1 (omega arith),
      e 2 (omega arith),
      e 3 (omega arith),
      e 4 (omega arith),
      e 5 (omega arith),
      e 6 (omega arith),
    )
shape_used (suc (suc (suc (suc (suc (suc zero)))))) g h l e =
    rw (
      e 0 (omega arith),
      e 1 (omega arith),
      e 2 (omega arith),
      e 3 (omega arith),
      e 4 (omega arith),
      e 5 (omega arith),
      e 6 (omega arith),
      e 7 (omega arith),
    )
shape_used (suc (suc (suc (suc (suc (suc (suc k))))))) g h l e = absurd (omega arith)

used_most : (k j : ℕ) → j < used_words k → j < 8
unfolding used_words
used_most k j h = most (eqb k 0 || eqb k 2) (eqb k 4) (eqb k 6) h
  where
    most : (a b c : Bool) → j < cond a 4 (cond b 5 (cond c 8 7)) → j < 8
    most true b c p = omega arith
    most false true c p = omega arith
    most false false true p = omega arith
    most false false false p = omega arith

-- what holds of each of eight
each8
    : (P : ℕ → Type 0) → P 0 → P 1 → P 2 → P 3 → P 4 → P 5 → P 6 → P 7 → (k : ℕ) → k < 8
    → P k
each8 P a b c d e f g h zero p = a
each8 P a b c d e f g h (suc zero) p = b
each8 P a b c d e f g h (suc (suc zero)) p = c
each8 P a b c d e f g h (suc (suc (suc zero))) p = d
each8 P a b c d e f g h (suc (suc (suc (suc zero)))) p = e
each8 P a b c d e f g h (suc (suc (suc (suc (suc zero))))) p = f
each8 P a b c d e f g h (suc (suc (suc (suc (suc (suc zero)))))) p = g
each8 P a b c d e f g h (suc (suc (suc (suc (suc (suc (suc zero))))))) p = h
each8 P a b c d e f g h (suc (suc (suc (suc (suc (suc (suc (suc k)))))))) p = absurd (omega arith)

-- a primitive whose words were written as its kind uses them
prim_used
    : (v w : List ℕ) (i j : ℕ)
    → i + 8 < 27296
    → j + 8 < 27296
    → word_of w j ≤ 6
    → word_of v i ≡ word_of w j
    → ((k : ℕ) → k < 8 → word_of v (i + suc k) ≡ used_word w (j + 1) (word_of w j) k)
    → prim_of v (seen v) i ≡ prim_of w (seen w) j
unfolding used_word
prim_used v w i j hi hj known kind h =
    let used : (k : ℕ) → k < used_words (word_of w j) → word_of v (i + suc k) ≡ word_of w (j + suc k)
    = λ k p.
    h k (used_most (word_of w j) k p)
    ∙ rw (lt-ltb k (used_words (word_of w j)) p) (ap (λ (x : ℕ). word_of w x) (omega arith)) in
    prim_words v i hi
    ∙ rw kind (shape_used (word_of w j) (λ k. word_of v (i + k)) (λ k. word_of w (j + k)) known used)
    ∙ sym (prim_words w j hj)

-- a piece from its head and its cutters
piece_from
    : (w : List ℕ) (f : List Float) (r : ℕ) (h : Head) (cs : Cuts)
    → head_at w f r ≡ h
    → list_from (cutter_at w f) (369 + h.place) h.cutters ≡ cs
    → piece_at w f r ≡ record { head = h; cuts = cs }
unfolding piece_at cuts_by
piece_from w f r h cs e k = rw (e, k)

-- ---- row r of v was written from the arguments of w
module _ (v w : List ℕ) (r : ℕ) (low : r < 1706) where
  abbrev Has : List ℕ → Type 0
  Has words = (k : ℕ) → k < 16 → word_of v (16 * r + k) ≡ get_or words k 0

  first : (words : List ℕ) → Has words → word_of v (16 * r) ≡ get_or words 0 0
  first words h = ap (λ (x : ℕ). word_of v x) (sym (add-zero (16 * r))) ∙ h 0 (omega arith)

  pub new_cutter
      : (a : ℕ)
      → a < 1706
      → word_of w (16 * a) ≤ 6
      → Has (cutter_words w a)
      → cutter_at v (seen v) r ≡ cutter_at w (seen w) a
  unfolding cutter_at
  new_cutter a la known h =
      let kind : word_of v (16 * r) ≡ word_of w (16 * a) = first (cutter_words w a) h in
      let at : (k : ℕ) → k < 8 → get_or (cutter_words w a) (1 + k) 0 ≡ used_word w (16 * a + 1)
      (word_of w (16 * a)) k
      = each8 (λ k. get_or (cutter_words w a) (1 + k) 0 ≡ used_word w (16 * a + 1) (word_of w (16 * a)) k)
      refl refl refl refl refl refl refl refl in
      let eight : (k : ℕ) → k < 8 → word_of v (16 * r + suc k) ≡ used_word w (16 * a + 1) (word_of w (16 * a)) k
      = λ k p. ap (λ (x : ℕ). word_of v x) (omega arith) ∙ h (1 + k) (omega arith) ∙ at k p in
      rw (prim_used v w (16 * r) (16 * a) (omega arith) (omega arith) known kind eight, kind)

  new_head
      : (place : ℕ)
      → arg_word w 3 ≤ 6
      → Has (piece_words w place)
      → head_at v (seen v) r ≡ placed (head_at w (seen w) args_row) place
  unfolding head_at
  new_head place known h =
      let blend : float_of (seen v) (16 * r + 1) ≡ float_of (seen w) 22289
      = float_of_lem v (16 * r + 1) (omega arith) ∙ rw (h 1 (omega arith)) (sym (float_of_lem w 22289 (omega arith))) in
      let at : (k : ℕ) → k < 8 → get_or (piece_words w place) (4 + k) 0 ≡ used_word w 22292 (word_of w 22291) k
      = each8 (λ k. get_or (piece_words w place) (4 + k) 0 ≡ used_word w 22292 (word_of w 22291) k)
      refl refl refl refl refl refl refl refl in
      let eight : (k : ℕ) → k < 8 → word_of v (16 * r + 3 + suc k) ≡ used_word w 22292 (word_of w 22291) k
      = λ k p. ap (λ (x : ℕ). word_of v x) (omega arith) ∙ h (4 + k) (omega arith) ∙ at k p in
      let shape : prim_of v (seen v) (16 * r + 3) ≡ prim_of w (seen w) 22291
      = prim_used v w (16 * r + 3) 22291 (omega arith) (omega arith) known (h 3 (omega arith)) eight in
      rw (
        first (piece_words w place) h,
        blend,
        h 2 (omega arith),
        shape,
        h 3 (omega arith),
        h 12 (omega arith),
      )

  -- its cutters from row 369 + place on
  pub new_piece
      : (place : ℕ)
      → arg_word w 3 ≤ 6
      → Has (piece_words w place)
      → ((k : ℕ) → k < arg_cuts w → cutter_at v (seen v) (369 + place + k) ≡ cutter_at w (seen w) (1394 + k))
      → piece_at v (seen v) r ≡ given_piece w place
  unfolding given_piece cuts_by head_at
  new_piece place known h cutters =
      piece_from v (seen v) r (placed (head_at w (seen w) args_row) place) (cuts_by w (seen w) 1394 (arg_cuts w))
      (new_head place known h)
      (from_same (cutter_at v (seen v)) (cutter_at w (seen w)) (369 + place) 1394 (arg_cuts w) cutters)

  -- the first n words of the arguments, in a row of their own
  pub new_record : (n : ℕ) → n ≤ 16 → Has (record_words w n) → Alike n v w (seen v) (seen w) r args_row
  unfolding first_word
  new_record n l h =
      moved n v w r args_row l low (omega arith)
      (λ k p.
      h k (omega arith)
      ∙ get_d_from (first_word w n) 0 16 k 0 (omega arith)
      ∙ (let z : 0 + k ≡ k = omega arith in rw (z, lt-ltb k n p)))
