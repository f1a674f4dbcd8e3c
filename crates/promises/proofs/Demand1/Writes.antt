-- An entry writes rows of the plan alone, so it leaves the table of what it stores: row by row. Assumes nothing.
use Prim.Native.Nat.{ℕ, zero, suc, ◌+◌, ◌*◌, ◌<◌, ◌≤◌}
use native.Mathlib.Omega.{arith}
use mathlib.Core.Path.{◌≡◌, refl, sym, ◌∙◌, ap}
use mathlib.Core.Logic.{⊎_elim, inr}
use mathlib.Core.Bool.{Bool, true, false}
use mathlib.Core.List.{List}
use lib.ListN.{length, take, set, length-set}
use lib.Seq.{get_or-set_other, get_or-take, length-take-le, ext_get_or}
use Rattle.words.specs.Words.{word_at, with_words}
use Rattle.words.proofs.Runs.{length_from}
use Rattle.words.proofs.Laws.{less_or, length_puts}
use Rattle.plan.specs.Sections.{plan_words, args_row, cutter_row, materials, lights}
use Rattle.plan.specs.Records.{word_of}
use Rattle.plan.specs.Plan.{count_of}
use Rattle.plan_write.specs.Written.{arg_cuts, section_of, piece_words, cutter_words, first_word, record_words, put_row}
use Rattle.plan_write.specs.Written.{put_cutters, one_more, with_piece, with_material_words, with_light_words}
use Rattle.plan_write.proofs.Lists.{row_out, length_row, row_other}
use Rattle.wire_lengths.specs.Lengths.{plan_bytes}
use Rattle.wire.specs.Lent.{lent_of, plan_table}
use Rattle.promises.proofs.Tables.{stored_word, lent_full, plan_length, plan_word, rest_word}

pub record WritesPlan (w left : List ℕ) : Type 0 where
  pub size : length left ≡ length w
  pub after : (i : ℕ) → plan_words ≤ i → word_of left i ≡ word_of w i

-- ---- what is left is the table of the bytes that are stored
-- the words stored are loaded again, over any number of words
stored_front
    : (m n : ℕ) (plan left : List ℕ) (i : ℕ)
    → 4 * m ≤ n
    → n ≤ length plan
    → m ≤ length left
    → i < m
    → word_at (lent_of (with_words plan (take m left)) n) i ≡ word_of left i
stored_front m n plan left i f h l p =
    let ws : List ℕ = take m left in
    ap (λ (t : List ℕ). word_at t i) (lent_full (with_words plan ws) n (rw (length_puts plan 0 ws) h))
    ∙ stored_word plan ws m (length-take-le m left l) (omega arith) i p
    ∙ get_or-take m left i 0 p

pub stored_table
    : (need : ℕ) (plan args left : List ℕ)
    → plan_bytes ≤ length plan
    → WritesPlan (plan_table need plan args) left
    → plan_table need (with_words plan (take plan_words left)) args ≡ left
stored_table need plan args left h l =
    let plan' : List ℕ = with_words plan (take plan_words left) in
    let long = plan_length need plan args in
    let size = l.size in
    ext_get_or 0 (plan_table need plan' args) left (plan_length need plan' args ∙ sym long ∙ sym size)
    (λ i _.
    ⊎_elim
    (λ p.
    plan_word need plan' args i p
    ∙ stored_front plan_words plan_bytes plan left i (omega arith) h (omega arith) p)
    (λ p. rest_word need plan' plan args i p ∙ sym (l.after i p))
    (less_or i plan_words))

-- ---- row by row
module _ (w v : List ℕ) (l : WritesPlan w v) where
  put_row_lem : (r : ℕ) (words : List ℕ) → length words ≤ 16 → WritesPlan w (put_row v r words)
  put_row_lem r words h =
      record {
        size = length_row v r words ∙ l.size;
        after = λ i p.
            ⊎_elim
            (λ q. row_other v r words i h (inr (omega arith)))
            (λ q. rw (row_out v r words q))
            (less_or r args_row)
            ∙ l.after i p;
      }

  put_count : (c x : ℕ) → c < 16 → WritesPlan w (set v c x)
  put_count c x h =
      record {
        size = length-set v c x ∙ l.size;
        after = λ i p. get_or-set_other v c i x 0 (λ e. omega arith) ∙ l.after i p;
      }

unwritten : (w : List ℕ) → WritesPlan w w
unwritten w = record { size = refl; after = λ i p. refl }

put_cutters_lem : (w : List ℕ) (place n : ℕ) → WritesPlan w (put_cutters w place n)
unfolding put_cutters
put_cutters_lem w place zero = unwritten w
put_cutters_lem w place (suc n) =
    put_row_lem w (put_cutters w place n) (put_cutters_lem w place n) (cutter_row + place + n) (cutter_words w (args_row + 1 + n))
    (omega arith)

abbrev sixteen : (w : List ℕ) (n : ℕ) → length (record_words w n) ≡ 16
sixteen w n = length_from (first_word w n) 0 16

count_word : (among : Bool) → (section_of among).count < 16
count_word true = omega arith
count_word false = omega arith

pub piece_writes : (among : Bool) (w : List ℕ) (place : ℕ) → WritesPlan w (with_piece among w place)
unfolding with_piece
piece_writes among w place =
    let at : ℕ = (section_of among).first + count_of (section_of among) w in
    put_count w _ (put_row_lem w _ (put_cutters_lem w place (arg_cuts w)) at (piece_words w place) (omega arith))
    (section_of among).count (one_more (count_of (section_of among) w)) (count_word among)

pub material_writes : (w : List ℕ) → WritesPlan w (with_material_words w)
unfolding with_material_words
material_writes w =
    put_count w _ (put_row_lem w w (unwritten w) (1 + count_of materials w) (record_words w 5) (omega (arith, sixteen w 5)))
    0 (one_more (count_of materials w)) (omega arith)

pub light_writes : (w : List ℕ) → WritesPlan w (with_light_words w)
unfolding with_light_words
light_writes w =
    let r : ℕ = 81 + 2 * count_of lights w in
    let first = put_row_lem w w (unwritten w) r (record_words w 15) (omega (arith, sixteen w 15)) in
    put_count w _ (put_row_lem w _ first (r + 1) (record_words w 0) (omega (arith, sixteen w 0)))
    2 (one_more (count_of lights w)) (omega arith)
