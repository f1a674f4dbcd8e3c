-- An entry on bytes: what it stores the next call loads, so what holds of its table does of them. Assumes nothing.
use Prim.Native.Nat.{ℕ, ◌<◌}
use mathlib.Core.Path.{◌≡◌, refl, sym, ◌∙◌, ap, subst}
use mathlib.Core.Logic.{◌↔◌}
use mathlib.Core.Bool.{Bool, true, false, cond}
use mathlib.Core.List.{List}
use lib.ListN.{length, take}
use lib.Dec.{eqb}
use Rattle.words.specs.Words.{with_words}
use Rattle.plan.specs.Sections.{plan_words, args_row}
use Rattle.plan.specs.Records.{material_at, light_at}
use Rattle.plan.specs.Plan.{Plan, seen, plan_in}
use Rattle.plan.specs.With.{with_material, with_light}
use Rattle.plan_test.specs.Tests.{solids_of}
use Rattle.plan_write.specs.Written.{arg_cuts, with_material_words, with_light_words}
use Rattle.plan_entry.specs.Entry.{new_place}
use Rattle.plan_entry.specs.After as made
use Rattle.plan_entry.specs.After.{with_one, Made}
use Rattle.plan_entry.proofs.Entered.{piece_entered, material_entered, light_entered}
use Rattle.wire.specs.Lent.{plan_table}
use Rattle.wire_lengths.specs.Lengths.{plan_before}
use Rattle.wire.specs.Sent.{cleared}
use Rattle.bemitondry_entry.specs.Entries.{material_entry, light_entry, piece_entry, piece_left}
use Rattle.wire_entry.specs.Entries.{EntrySent, object_before}
use Rattle.promises.specs.Bytes.{FullPlan, FullTree}
use Rattle.promises.specs.Demand1.{Lent, MaterialTaken, LightTaken, PieceTaken, Enters, entering, Replied}
use Rattle.promises.specs.Demand1.{Dropped}
use Rattle.promises.proofs.Cases.{cond_some}
use Rattle.promises.proofs.Replies.{sent_number, sent_word, sent_refusal}
use Rattle.promises.proofs.Lengths.{lent_exact, lent_tree_exact}
use Rattle.promises.proofs.Tables.{plan_length}
use Rattle.promises.proofs.Demand1.Writes.{WritesPlan, stored_table, piece_writes, material_writes}
use Rattle.promises.proofs.Demand1.Writes.{light_writes}
use Rattle.promises.proofs.Demand1.Taken.{material_taken, light_taken, piece_taken}

-- an entry, as tables have it: its number, what it leaves, the lengths and the record that it takes, and the plan then
pub record Entry (number need : ℕ) (plan args left : List ℕ) (L Taken : Type 0) (after : Plan) : Type 0 where
  pub exactly : (number ≡ 0) ↔ (L × Taken)
  pub full : L → FullPlan plan
  pub writes : WritesPlan (plan_table need plan args) left
  pub entered : number ≡ 0 → plan_in left ≡ after
  pub makes : Made (plan_table need plan args) → Taken → Made left

module _ {number index need : ℕ} {plan args left out : List ℕ} {n : ℕ} {plan' out' : List ℕ}
    {L Taken : Type 0} {after : Plan} (e : Entry number need plan args left L Taken after)
    (s : EntrySent number index left plan out n plan' out') where
  pub plan_kept : 0 < number → plan' ≡ plan
  plan_kept h = s.plan_is ∙ cond_some number (with_words plan (take plan_words left)) plan h

  pub plan_loaded : number ≡ 0 → plan_table need plan' args ≡ left
  plan_loaded z =
      let stores : plan' ≡ with_words plan (take plan_words left)
      = s.plan_is ∙ ap (λ (m : ℕ). cond (eqb m 0) (with_words plan (take plan_words left)) plan) z in
      ap (λ (b : List ℕ). plan_table need b args) stores
      ∙ stored_table need plan args left (e.full (e.exactly.0 z).0) e.writes

  pub entry_enters : Enters (L × Taken) need plan args n plan' after
  entry_enters =
      let i = sent_number _ _ s.sent in
      record {
        exactly = (λ z. e.exactly.0 (sym i ∙ z), λ t. i ∙ e.exactly.1 t);
        entered = λ z. ap plan_in (plan_loaded (sym i ∙ z)) ∙ e.entered (sym i ∙ z);
        kept = λ h. plan_kept (subst (λ (m : ℕ). 0 < m) i h);
      }

-- ---- the answer, and the tree
pub entry_answers
    : {number index k : ℕ} {left plan out : List ℕ} {n : ℕ} {plan' out' : List ℕ}
    → EntrySent number index left plan out n plan' out'
    → k ≡ index
    → Replied k out n out'
entry_answers s c =
    record {
      done = λ z. sent_word _ _ s.sent (sym (sent_number _ _ s.sent) ∙ z) (sym c);
      refused = sent_refusal _ _ s.sent;
    }

pub tree_drops
    : {number n full : ℕ} {table table' : List ℕ}
    → n ≡ number
    → table' ≡ cleared (eqb number 0) table full
    → Dropped n full table table'
unfolding cleared
tree_drops {number} {n} {full} {table} e is =
    record { dropped = λ z. is ∙ rw (sym e, z); kept = λ h. is ∙ rw (sym e) (cond_some n _ table h) }

-- ---- the four entries
none_before : (◌≡◌ {A = ℕ} 0 0) ↔ Unit {0}
none_before = (λ _. tt, λ _. refl)

module _ (plan args out : List ℕ) where
  pub material_entry_lem
      : let w = plan_table 20 plan args in
      Entry (material_entry (plan_before (length plan) 20 (length args) (length out)) w (seen w)) 20 plan args
      (with_material_words w) (Lent 20 plan args out) (MaterialTaken w)
      (with_material (plan_in w) (material_at (seen w) args_row))
  material_entry_lem =
      let w : List ℕ = plan_table 20 plan args in
      let before : ℕ = plan_before (length plan) 20 (length args) (length out) in
      record {
        exactly = material_taken before (Lent 20 plan args out) (lent_exact 20 plan args out) w;
        full = λ l. l.plan_full;
        writes = material_writes w;
        entered = material_entered before w (plan_length 20 plan args);
        makes = λ m t. made.material w m ((material_taken 0 Unit none_before w).1 (tt, t));
      }

  pub light_entry_lem
      : let w = plan_table 60 plan args in
      Entry (light_entry (plan_before (length plan) 60 (length args) (length out)) w (seen w)) 60 plan args
      (with_light_words w) (Lent 60 plan args out) (LightTaken w)
      (with_light (plan_in w) (light_at (seen w) args_row))
  light_entry_lem =
      let w : List ℕ = plan_table 60 plan args in
      let before : ℕ = plan_before (length plan) 60 (length args) (length out) in
      record {
        exactly = light_taken before (Lent 60 plan args out) (lent_exact 60 plan args out) w;
        full = λ l. l.plan_full;
        writes = light_writes w;
        entered = light_entered before w (plan_length 60 plan args);
        makes = λ m t. made.light w m ((light_taken 0 Unit none_before w).1 (tt, t));
      }

  piece_entry_lem
      : (among : Bool) (before : ℕ) (L : Type 0)
      → (before ≡ 0) ↔ L
      → (L → FullPlan plan)
      → let w = plan_table 64 plan args in
      Entry (piece_entry before among w (seen w) (length args)) 64 plan args (piece_left among w (seen w)) L
      (PieceTaken among (length args) w) (with_one among (plan_in w) (entering among w))
  piece_entry_lem among before L p full =
      let w : List ℕ = plan_table 64 plan args in
      let bytes : ℕ = length args in
      record {
        exactly = piece_taken before L p among bytes w;
        full = full;
        writes = piece_writes among w (new_place among (solids_of (plan_in w)) (arg_cuts w));
        entered = piece_entered before among w bytes (plan_length 64 plan args);
        makes = λ m t. made.piece among bytes w m ((piece_taken 0 Unit none_before among bytes w).1 (tt, t));
      }

  pub plane_entry
      : let w = plan_table 64 plan args in
      Entry (piece_entry (plan_before (length plan) 64 (length args) (length out)) true w (seen w) (length args)) 64 plan
      args (piece_left true w (seen w)) (Lent 64 plan args out)
      (PieceTaken true (length args) w) (with_one true (plan_in w) (entering true w))
  plane_entry =
      piece_entry_lem true (plan_before (length plan) 64 (length args) (length out)) (Lent 64 plan args out)
      (lent_exact 64 plan args out) (λ l. l.plan_full)

  pub object_entry
      : (nodes order : List ℕ)
      → let w = plan_table 64 plan args in
      Entry (piece_entry (object_before plan nodes order args out) false w (seen w) (length args)) 64 plan args
      (piece_left false w (seen w)) (Lent 64 plan args out × FullTree nodes order)
      (PieceTaken false (length args) w) (with_one false (plan_in w) (entering false w))
  object_entry nodes order =
      piece_entry_lem false (object_before plan nodes order args out) (Lent 64 plan args out × FullTree nodes order)
      (lent_tree_exact 64 plan nodes order args out) (λ l. l.0.plan_full)
