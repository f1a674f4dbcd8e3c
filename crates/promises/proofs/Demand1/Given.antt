-- Bytes that hold any words given, and the records that a call reads from them: word by word. Assumes nothing.
use Prim.Native.Nat.{ℕ, ◌+◌, ◌*◌, ◌<◌, ◌≤◌}
use native.Mathlib.Nat.{add-zero}
use native.Mathlib.Omega.{arith}
use mathlib.Core.Path.{◌≡◌, sym, ◌∙◌, ap}
use mathlib.Core.List.{List}
use lib.ListN.{length, replicate, length-replicate}
use mathlib.Core.Bool.{cond}
use lib.Dec.{ltb}
use borrow.Author.Tests.{lt-ltb, le-ltb}
use lib.Ieee.{Float, binary32, of_bits}
use Rattle.sdf.specs.declared.Shape.{Shape}
use Rattle.words.specs.Lists.{list_from}
use Rattle.words.specs.Words.{word_at, with_words}
use Rattle.words.proofs.Runs.{length_from, from_same, get_d_from}
use Rattle.words.proofs.Laws.{length_puts}
use Rattle.refusals.specs.Prims.{shape_of}
use Rattle.plan.specs.declared.Cutter.{Cutter}
use Rattle.plan.specs.declared.Head.{Head}
use Rattle.plan.specs.Sections.{plan_words, args_words, args_row}
use Rattle.plan.specs.Records.{word_of, float_of, prim_of, cutter_at, head_at}
use Rattle.plan.specs.Plan.{Piece, cuts_by, piece_at, seen}
use Rattle.plan.proofs.Rows.{float_of_lem}
use Rattle.wire.specs.Lent.{plan_table}
use Rattle.promises.proofs.Tables.{stored_word, lent_full, args_word}

-- ---- bytes whose words are g 0, g 1, ..: so many as a call's table has of its arguments
unfoldable pub bytes_of : (ℕ → ℕ) → List ℕ
bytes_of g = with_words (replicate 576 0) (list_from g 0 args_words)

pub length_bytes : (g : ℕ → ℕ) → length (bytes_of g) ≡ 576
unfolding bytes_of
length_bytes g = length_puts (replicate 576 0) 0 (list_from g 0 args_words) ∙ length-replicate {A = ℕ} 576 0

bytes_word : (g : ℕ → ℕ) (i : ℕ) → i < args_words → word_at (bytes_of g) i ≡ g i
unfolding bytes_of
bytes_word g i h =
    let z : 0 + i ≡ i = omega arith in
    stored_word (replicate 576 0) (list_from g 0 args_words) args_words (length_from g 0 args_words)
    (omega (arith, length-replicate {A = ℕ} 576 0)) i h
    ∙ get_d_from g 0 args_words i 0 h
    ∙ ap g z

pub given_word
    : (need : ℕ) (plan : List ℕ) (g : ℕ → ℕ) (i : ℕ)
    → need ≤ 576
    → i < args_words
    → word_of (plan_table need plan (bytes_of g)) (plan_words + i) ≡ g i
given_word need plan g i h p =
    args_word need plan (bytes_of g) i p
    ∙ ap (λ (t : List ℕ). word_at t i) (lent_full (bytes_of g) need (omega (arith, length_bytes g)))
    ∙ bytes_word g i p

-- ---- records by their words
abbrev fl : ℕ → Float
fl n = of_bits binary32 n

abbrev shape_by : (ℕ → ℕ) → Shape
shape_by g =
    shape_of (g 0)
    (record { x = fl (g 1); y = fl (g 2); z = fl (g 3) })
    (record { x = fl (g 4); y = fl (g 5); z = fl (g 6) })
    (fl (g 7))
    (fl (g 8))

abbrev pub cutter_by : (ℕ → ℕ) → Cutter
cutter_by g = record { kind = g 0; shape = shape_by g }

abbrev pub head_by : (ℕ → ℕ) → Head
head_by g =
    record {
      material = g 0;
      blend = fl (g 1);
      cutters = g 2;
      kind = g 3;
      shape = shape_by (λ k. g (3 + k));
      place = g 12;
    }

-- a piece in its first row, and its cutters in the next
abbrev pub piece_by : (ℕ → ℕ) → Piece
piece_by g = record { head = head_by g; cuts = list_from (λ j. cutter_by (λ k. g (16 * j + k))) 1 (g 2) }

prim_by
    : (w : List ℕ) (i : ℕ) (g : ℕ → ℕ)
    → i + 8 < 27296
    → ((k : ℕ) → k < 9 → word_of w (i + k) ≡ g k)
    → prim_of w (seen w) i ≡ shape_by g
prim_by w i g h e =
    let first : word_of w i ≡ g 0 = ap (word_of w) (sym (add-zero i)) ∙ e 0 (omega arith) in
    let at : (k : ℕ) → k < 9 → float_of (seen w) (i + k) ≡ fl (g k)
    = λ k p. float_of_lem w (i + k) (omega arith) ∙ ap fl (e k p) in
    rw (
      first,
      at 1 (omega arith),
      at 2 (omega arith),
      at 3 (omega arith),
      at 4 (omega arith),
      at 5 (omega arith),
      at 6 (omega arith),
      at 7 (omega arith),
      at 8 (omega arith),
    )

module _ (w : List ℕ) (r : ℕ) (g : ℕ → ℕ) (h : r < 1706) where
  abbrev first : ((k : ℕ) → k < 9 → word_of w (16 * r + k) ≡ g k) → word_of w (16 * r) ≡ g 0
  first e = ap (word_of w) (sym (add-zero (16 * r))) ∙ e 0 (omega arith)

  cutter_by_lem : ((k : ℕ) → k < 9 → word_of w (16 * r + k) ≡ g k) → cutter_at w (seen w) r ≡ cutter_by g
  unfolding cutter_at
  cutter_by_lem e = rw (prim_by w (16 * r) g (omega arith) e, first e)

  head_by_lem : ((k : ℕ) → k < 13 → word_of w (16 * r + k) ≡ g k) → head_at w (seen w) r ≡ head_by g
  unfolding head_at
  head_by_lem e =
      let at : (k : ℕ) → k < 9 → word_of w (16 * r + 3 + k) ≡ g (3 + k)
      = λ k p. ap (word_of w) (omega arith) ∙ e (3 + k) (omega arith) in
      rw (
        prim_by w (16 * r + 3) (λ k. g (3 + k)) (omega arith) at,
        first (λ k p. e k (omega arith)),
        float_of_lem w (16 * r + 1) (omega arith),
        e 1 (omega arith),
        e 2 (omega arith),
        e 3 (omega arith),
        e 12 (omega arith),
      )

-- ---- what a call reads from such arguments
module _ (plan : List ℕ) (g : ℕ → ℕ) where
  abbrev table : List ℕ
  table = plan_table 64 plan (bytes_of g)

  pub given_head : head_at table (seen table) args_row ≡ head_by g
  given_head = head_by_lem table args_row g (omega arith) (λ k p. given_word 64 plan g k (omega arith) (omega arith))

  pub given_cuts
      : (n : ℕ)
      → n ≤ 8
      → cuts_by table (seen table) (args_row + 1) n ≡ list_from (λ j. cutter_by (λ k. g (16 * j + k))) 1 n
  unfolding cuts_by
  given_cuts n h =
      from_same (cutter_at table (seen table)) (λ j. cutter_by (λ k. g (16 * j + k))) (args_row + 1) 1 n
      (λ j p.
      cutter_by_lem table (args_row + 1 + j) (λ k. g (16 * (1 + j) + k)) (omega arith)
      (λ k q.
      let at : 16 * (args_row + 1 + j) + k ≡ plan_words + (16 * (1 + j) + k) = omega arith in
      ap (word_of table) at ∙ given_word 64 plan g (16 * (1 + j) + k) (omega arith) (omega arith)))

-- ---- the words of a piece in row r of a table, and those of its cutters
unfoldable pub rows_of : List ℕ → ℕ → ℕ → ℕ
rows_of w r k = cond (ltb k 16) (word_of w (16 * r + k)) (word_of w (16 * (368 + (head_at w (seen w) r).place) + k))

own_word : (w : List ℕ) (r k : ℕ) → k < 16 → rows_of w r k ≡ word_of w (16 * r + k)
unfolding rows_of
own_word w r k h = rw (lt-ltb k 16 h)

past
    : (w : List ℕ) (r k : ℕ)
    → 16 ≤ k → rows_of w r k ≡ word_of w (16 * (368 + (head_at w (seen w) r).place) + k)
unfolding rows_of
past w r k h = rw (le-ltb k 16 h)

piece_same : (h k : Head) (f g : ℕ → Cutter) (a b n m : ℕ) → h ≡ k → n ≡ m
    → ((j : ℕ) → j < m → f (a + j) ≡ g (b + j))
    → ◌≡◌ {A = Piece} (record { head = h; cuts = list_from f a n }) (record { head = k; cuts = list_from g b m })
piece_same h k f g a b n m e c s = rw (e, c, from_same f g a b m s)

pub piece_by_lem
    : (w : List ℕ) (r : ℕ)
    → r < 1706
    → (piece_at w (seen w) r).head.place + (piece_at w (seen w) r).head.cutters ≤ 1024
    → piece_by (rows_of w r) ≡ piece_at w (seen w) r
unfolding piece_at cuts_by
piece_by_lem w r h fit =
    let g : ℕ → ℕ = rows_of w r in
    let own : Head = head_at w (seen w) r in
    let e : head_by g ≡ own = sym (head_by_lem w r g h (λ k p. sym (own_word w r k (omega arith)))) in
    piece_same (head_by g) own (λ j. cutter_by (λ k. g (16 * j + k))) (cutter_at w (seen w)) 1 (369 + own.place) (g 2)
    own.cutters e (ap (λ (x : Head). x.cutters) e)
    (λ j p.
    sym
    (cutter_by_lem w (369 + own.place + j) (λ k. g (16 * (1 + j) + k)) (omega arith)
    (λ k q.
    let at : 16 * (369 + own.place + j) + k ≡ 16 * (368 + own.place) + (16 * (1 + j) + k) = omega arith in
    ap (word_of w) at ∙ sym (past w r (16 * (1 + j) + k) (omega arith)))))
