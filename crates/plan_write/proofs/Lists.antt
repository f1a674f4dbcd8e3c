-- What a written row is, and what loops that write rows need: no row of the plan is one of the arguments', so that
-- these are read as they were. Assumes nothing.
use Prim.Native.Nat.{ℕ, zero, suc, ◌+◌, ◌*◌, ◌<◌, ◌≤◌}
use mathlib.Core.Path.{◌≡◌, refl, sym, ◌∙◌, subst}
use mathlib.Core.Logic.{◌⊎◌, ⊎_elim, inl, inr}
use mathlib.Core.List.{List}
use native.Mathlib.Numerals.{add-one}
use native.Mathlib.Omega.{arith}
use native.Mathlib.Decide.{dec_le}
use lib.ListN.{length, get_or}
use lib.Seq.{sets, length-sets}
use borrow.Author.Tests.{lt-ltb, le-ltb}
use Rattle.words.proofs.Laws.{less_or}
use Rattle.words.proofs.Stores.{get_d_sets_out, get_d_sets_in}
use Rattle.plan_write.specs.Written.{used_word, cutter_words, put_row, put_cutters}

-- ---- a row
pub row_in : (w : List ℕ) (r : ℕ) (words : List ℕ) → r < 1393 → put_row w r words ≡ sets w (16 * r) words
unfolding put_row
row_in w r words h = rw (lt-ltb r 1393 h)

pub row_out : (w : List ℕ) (r : ℕ) (words : List ℕ) → 1393 ≤ r → put_row w r words ≡ w
unfolding put_row
row_out w r words h = rw (le-ltb r 1393 h)

pub length_row : (w : List ℕ) (r : ℕ) (words : List ℕ) → length (put_row w r words) ≡ length w
length_row w r words =
    ⊎_elim
    (λ p. rw (row_in w r words p) (length-sets w (16 * r) words))
    (λ p. rw (row_out w r words p))
    (less_or r 1393)

-- a written row has its words, and the words outside it stay
pub row_here
    : (w : List ℕ) (r : ℕ) (words : List ℕ) (k : ℕ)
    → length w ≡ 27296
    → r < 1393
    → length words ≡ 16
    → k < 16
    → get_or (put_row w r words) (16 * r + k) 0 ≡ get_or words k 0
row_here w r words k len h l p = rw (row_in w r words h) (get_d_sets_in w (16 * r) words k (omega arith) (omega arith))

pub row_other
    : (w : List ℕ) (r : ℕ) (words : List ℕ) (k : ℕ)
    → length words ≤ 16
    → (k < 16 * r) ⊎ (16 * r + 16 ≤ k)
    → get_or (put_row w r words) k 0 ≡ get_or w k 0
row_other w r words k l h =
    ⊎_elim
    (λ p. rw (row_in w r words p) (get_d_sets_out w (16 * r) words k
    (⊎_elim (λ q. inl q) (λ q. inr (omega arith)) h)))
    (λ p. rw (row_out w r words p))
    (less_or r 1393)

-- the words after the plan stay
row_after
    : (w : List ℕ) (r : ℕ) (words : List ℕ) (k : ℕ)
    → length words ≤ 16
    → 22288 ≤ k
    → get_or (put_row w r words) k 0 ≡ get_or w k 0
row_after w r words k l h =
    ⊎_elim (λ p. row_other w r words k l (inr (omega arith))) (λ p. rw (row_out w r words p)) (less_or r 1393)

-- ---- cutters
used_same
    : (v w : List ℕ) (i kind j : ℕ)
    → ((k : ℕ) → get_or v (i + k) 0 ≡ get_or w (i + k) 0)
    → used_word v i kind j ≡ used_word w i kind j
unfolding used_word
used_same v w i kind j h = rw (h j)

-- the arguments' cutters, in a table whose words after the plan are the same
cutter_same
    : (v w : List ℕ) (r : ℕ)
    → 1393 ≤ r
    → ((k : ℕ) → 22288 ≤ k → get_or v k 0 ≡ get_or w k 0)
    → cutter_words v r ≡ cutter_words w r
cutter_same v w r g h =
    let kind : ℕ = get_or w (16 * r) 0 in
    let same : (j : ℕ) → used_word v (16 * r + 1) kind j ≡ used_word w (16 * r + 1) kind j
    = λ j. used_same v w (16 * r + 1) kind j (λ k. h (16 * r + 1 + k) (omega arith)) in
    rw (h (16 * r) (omega arith), same 0, same 1, same 2, same 3, same 4, same 5, same 6, same 7)

module _ (w : List ℕ) (place : ℕ) where
  cutters_after : (n k : ℕ) → 22288 ≤ k → get_or (put_cutters w place n) k 0 ≡ get_or w k 0
  unfolding put_cutters
  cutters_after zero k h = refl
  cutters_after (suc n) k h =
      row_after (put_cutters w place n) (369 + place + n) (cutter_words w (1394 + n)) k (omega arith) h
      ∙ cutters_after n k h

  pub length_cutters : (n : ℕ) → length (put_cutters w place n) ≡ length w
  unfolding put_cutters
  length_cutters zero = refl
  length_cutters (suc n) =
      length_row (put_cutters w place n) (369 + place + n) (cutter_words w (1394 + n)) ∙ length_cutters n

  pub cutters_other
      : (n k : ℕ)
      → (k < 16 * (369 + place)) ⊎ (16 * (369 + place + n) ≤ k)
      → get_or (put_cutters w place n) k 0 ≡ get_or w k 0
  unfolding put_cutters
  cutters_other zero k h = refl
  cutters_other (suc n) k h =
      row_other (put_cutters w place n) (369 + place + n) (cutter_words w (1394 + n)) k (omega arith)
      (⊎_elim (λ p. inl (omega arith)) (λ p. inr (omega arith)) h)
      ∙ cutters_other n k (⊎_elim (λ p. inl p) (λ p. inr (omega arith)) h)

  pub cutters_here
      : (n j k : ℕ)
      → length w ≡ 27296
      → place + n ≤ 1024
      → j < n
      → k < 16
      → get_or (put_cutters w place n) (16 * (369 + place + j) + k) 0 ≡ get_or (cutter_words w (1394 + j)) k 0
  unfolding put_cutters
  cutters_here zero j k len fit h p = absurd (omega arith)
  cutters_here (suc n) j k len fit h p =
      let v : List ℕ = put_cutters w place n in
      let row : ℕ = 369 + place + n in
      elim (dec_le n j) [
        | yes g ↦
            let e : j ≡ n = omega arith in
            let words : List ℕ = cutter_words w (1394 + n) in
            subst
            (λ (i : ℕ). get_or (put_row v row words) (16 * (369 + place + i) + k) 0 ≡ get_or
            (cutter_words w (1394 + i)) k 0)
            (sym e)
            (row_here v row words k (length_cutters n ∙ len) (omega arith) refl p)
        | no g ↦
            row_other v row (cutter_words w (1394 + n)) (16 * (369 + place + j) + k) (omega arith) (inl (omega arith))
            ∙ cutters_here n j k len (omega arith) (omega arith) p
      ]

  pub put_none : w ≡ put_cutters w place 0
  unfolding put_cutters
  put_none = refl

  -- a turn reads the arguments of the table that it writes
  pub put_more
      : (j : ℕ)
      → put_cutters w place (j + 1)
      ≡ put_row (put_cutters w place j) (369 + place + j) (cutter_words (put_cutters w place j) (1394 + j))
  unfolding put_cutters
  put_more j =
      let v : List ℕ = put_cutters w place j in
      let e : cutter_words v (1394 + j) ≡ cutter_words w (1394 + j)
      = cutter_same v w (1394 + j) (omega arith) (cutters_after j) in
      rw (add-one j, e)
