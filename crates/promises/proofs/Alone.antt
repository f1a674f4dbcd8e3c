-- A plan lent is the same whatever is lent after it: each record is read from kept rows. Assumes nothing.
use Prim.Native.Nat.{ℕ, ◌+◌, ◌*◌, ◌≤◌, ◌<◌}
use mathlib.Core.Path.{◌≡◌, sym, ◌∙◌}
use mathlib.Core.Bool.{false}
use mathlib.Core.List.{List, []}
use native.Mathlib.Omega.{arith}
use lib.ListN.{length, take, length-take}
use lib.Seq.{get_or-take, ext_get_or}
use Rattle.words.proofs.Runs.{All-from}
use Rattle.plan.specs.Sections.{plan_words, table_words, cutter_places, objects}
use Rattle.plan.specs.Records.{word_of, head_at}
use Rattle.plan.specs.Plan.{Piece, Plan, piece_at, pieces_from, count_of, plan_of, seen, plan_in}
use Rattle.plan.proofs.Rows.{Kept, kept, pieces-Kept}
use Rattle.plan_test.specs.Tests.{cutters_of}
use Rattle.plan_test.specs.Exact.{PlacesAre, SoundObjects, SoundSolids}
use Rattle.plan_test.proofs.Lists.{counts_words}
use Rattle.plan_test.proofs.Exact.{counts_exact}
use Rattle.plan_test.proofs.Apart.{objects_reach}
use Rattle.plan_entry.proofs.Entered.{plan_relent}
use Rattle.wire.specs.Lent.{plan_table, ask_table}
use Rattle.promises.specs.Bytes.{plan_with, plan_at}
use Rattle.promises.proofs.Tables.{table_plan, plan_word}
use Rattle.plan_entry.proofs.Made.{materials_of, pieces_of}

-- two tables have the same plan's words
abbrev pub SamePlan : List ℕ → List ℕ → Type 0
SamePlan v w = (i : ℕ) → i < plan_words → word_of v i ≡ word_of w i

pub lent_same
    : (need need' : ℕ) (plan args args' : List ℕ)
    → SamePlan (plan_table need plan args) (plan_table need' plan args')
lent_same need need' plan args args' i h = plan_word need plan args i h ∙ sym (plan_word need' plan args' i h)

pub asked_same
    : (need : ℕ) (plan nodes order : List ℕ) (tree : ℕ) (args : List ℕ)
    → SamePlan (ask_table need plan nodes order tree args) (plan_table 0 plan [])
unfolding ask_table
asked_same need plan nodes order tree args i h = table_plan _ _ _ _ i h ∙ sym (plan_word 0 plan [] i h)

-- ---- its words, one after the other
pub Front-same
    : (v w : List ℕ)
    → length v ≡ table_words
    → length w ≡ table_words
    → SamePlan v w
    → take plan_words v ≡ take plan_words w
Front-same v w = front plan_words table_words
  where
    front
        : (n m : ℕ)
        → length v ≡ m
        → length w ≡ m
        → ((i : ℕ) → i < n → word_of v i ≡ word_of w i)
        → take n v ≡ take n w
    front n m a b h =
        let size : length (take n v) ≡ length (take n w) = simp (length-take, a, b) in
        ext_get_or 0 (take n v) (take n w) size
        (λ i p.
        let q : i < n = omega (arith, length-take n v) in
        get_or-take n v i 0 q ∙ h i q ∙ sym (get_or-take n w i 0 q))

-- ---- a sound plan
pub alone
    : (need : ℕ) (plan args : List ℕ) → SoundSolids (plan_at plan) → plan_with need plan args ≡ plan_at plan
alone need plan args s =
    plan_relent (plan_table 0 plan []) (plan_table need plan args) s (lent_same need 0 plan args [])

-- ---- pieces whose rows and cutters lie within the objects' places
pub record Housed (os : List Piece) : Type 0 where
  few : length os ≤ 256
  places : PlacesAre false 0 os
  room : cutters_of os ≤ cutter_places

pub sound_housed : (p : Plan) → SoundObjects p → Housed p.objects
sound_housed p s = record { few = s.counts.objects; places = s.objects.places; room = s.room }

module _ (w v : List ℕ) (same : SamePlan v w) where
  row : (r : ℕ) → r < 1393 → Kept v w r
  row r l = kept v w r (λ k p. same (16 * r + k) (omega arith))

  pub objects_alone : Housed (plan_in w).objects → (plan_in v).objects ≡ (plan_in w).objects
  unfolding plan_of pieces_from piece_at
  objects_alone h =
      let used : ℕ = cutters_of (plan_in w).objects in
      let few : count_of objects w ≤ 256 = omega (arith, pieces_of false w, h.few) in
      let place : (j : ℕ) → j < count_of objects w
      → (head_at w (seen w) (113 + j)).place + (head_at w (seen w) (113 + j)).cutters ≤ used
      = All-from (λ (o : Piece). o.head.place + o.head.cutters ≤ used) (piece_at w (seen w)) 113
      (count_of objects w) (objects_reach 0 used (plan_in w).objects h.places (omega arith)) in
      rw (same 3 (omega arith))
      (pieces-Kept v w 113 (count_of objects w)
      (λ j p. row (113 + j) (omega arith))
      (λ j p k q.
      let at = place j p in
      let room = h.room in
      row (369 + (head_at w (seen w) (113 + j)).place + k) (omega arith)))

  pub sound_alone : SoundObjects (plan_in w) → SoundObjects (plan_in v)
  sound_alone s =
      let m : length (plan_in v).materials ≡ length (plan_in w).materials
      = materials_of v ∙ same 0 (omega arith) ∙ sym (materials_of w) in
      let o : (plan_in v).objects ≡ (plan_in w).objects = objects_alone (sound_housed (plan_in w) s) in
      record {
        counts =
            (counts_exact (plan_in v)).0
            (counts_words v (seen v)
            ∙ rw (same 0 (omega arith), same 1 (omega arith), same 2 (omega arith), same 3 (omega arith))
            (sym (counts_words w (seen w)) ∙ (counts_exact (plan_in w)).1 s.counts));
        objects = rw (m, o) s.objects;
        room = rw o s.room;
      }
