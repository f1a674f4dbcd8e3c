-- Every run of entries from zero bytes makes a plan that passes every test: by induction on it. Assumes nothing.
use Prim.Native.Nat.{ℕ, ◌<◌}
use native.Mathlib.Omega.{arith}
use mathlib.Core.Path.{◌≡◌, sym, ◌∙◌, subst}
use mathlib.Core.Logic.{⊎_elim}
use mathlib.Core.List.{List, []}
use lib.ListN.{length, replicate, length-replicate}
use lib.Ieee.{Float}
use Rattle.words.specs.Lists.{list_from}
use Rattle.words.proofs.Laws.{less_or}
use Rattle.plan.specs.Sections.{plan_words, table_words, materials, planes, lights, objects}
use Rattle.plan.specs.Records.{word_of}
use Rattle.plan.specs.Plan.{Plan, pieces_from, count_of, plan_of}
use Rattle.plan_test.specs.Exact.{SoundLit}
use Rattle.plan_test.proofs.Exact.{counts_exact, objects_exact, solids_exact, lit_exact}
use Rattle.plan_entry.specs.After as made
use Rattle.plan_entry.specs.After.{Made}
use Rattle.plan_entry.proofs.Made.{made_lit}
use Rattle.wire.specs.Lent.{plan_table}
use Rattle.wire_entry.specs.Entries.{EntrySent}
use Rattle.promises.specs.Bytes.{plan_with, plan_at}
use Rattle.promises.specs.Demand1.{Run, start, material, light, plane, object, Passes, empty_plan}
use Rattle.promises.proofs.Tables.{plan_length, zeros, zero_plan}
use Rattle.promises.proofs.Alone.{SamePlan, lent_same, Front-same, alone}
use Rattle.promises.proofs.Demand1.Entries.{Entry, plan_kept, plan_loaded, material_entry_lem, light_entry_lem}
use Rattle.promises.proofs.Demand1.Entries.{plane_entry, object_entry}

-- a plan made by entries stays one in any table that has its words, so with other arguments
same_made
    : (w v : List ℕ) → length w ≡ table_words → length v ≡ table_words → SamePlan v w → Made w → Made v
same_made w v a b s m = made.relent w v m b (Front-same v w b a s)

relent
    : (need need' : ℕ) (plan args args' : List ℕ)
    → Made (plan_table need plan args)
    → Made (plan_table need' plan args')
relent need need' plan args args' =
    same_made (plan_table need plan args) (plan_table need' plan args') (plan_length need plan args)
    (plan_length need' plan args') (lent_same need' need plan args' args)

-- and with one entry more, taken or refused
still_made
    : {number index need : ℕ} {plan args left out : List ℕ} {n : ℕ} {plan' out' : List ℕ} {L Taken : Type 0}
    {after : Plan}
    → Entry number need plan args left L Taken after
    → EntrySent number index left plan out n plan' out'
    → Made (plan_table 0 plan [])
    → Made (plan_table 0 plan' [])
still_made {number} {index} {need} {plan} {args} {left} {out} {n} {plan'} e s m =
    ⊎_elim
    (λ h. subst (λ (b : List ℕ). Made (plan_table 0 b [])) (sym (plan_kept e s h)) m)
    (λ h.
    let z : number ≡ 0 = omega arith in
    relent need 0 plan' args []
    (subst Made (sym (plan_loaded e s z)) (e.makes (relent 0 need plan [] args m) (e.exactly.0 z).1)))
    (less_or 0 number)

run_made : {plan : List ℕ} → Run plan → Made (plan_table 0 plan [])
run_made (start k) =
    same_made (replicate table_words 0) (plan_table 0 (replicate k 0) []) (length-replicate {A = ℕ} table_words 0)
    (plan_length 0 (replicate k 0) [])
    (λ i h. zero_plan 0 k [] i h ∙ sym (zeros table_words i)) made.empty
run_made (material {plan} args out n plan' out' r e) = still_made (material_entry_lem plan args out) e (run_made r)
run_made (light {plan} args out n plan' out' r e) = still_made (light_entry_lem plan args out) e (run_made r)
run_made (plane {plan} args out n plan' out' r e) = still_made (plane_entry plan args out) e (run_made r)
run_made (object {plan} nodes order args out n plan' nodes' order' out' r e) =
    still_made (object_entry plan args out nodes order) e.piece (run_made r)

passes : (p : Plan) → SoundLit p → Passes p
passes p s =
    let solids = s.solids in
    let room = solids.room in
    record {
      counts_pass = (counts_exact p).1 solids.counts;
      objects_pass =
          (objects_exact p).1 (record { counts = solids.counts; objects = solids.objects; room = omega arith });
      solids_pass = (solids_exact p).1 solids;
      lit_pass = (lit_exact p).1 s;
    }

-- zero bytes are the empty plan: over any floats
no_counts
    : (w : List ℕ) (f : List Float)
    → count_of materials w ≡ 0
    → count_of planes w ≡ 0
    → count_of lights w ≡ 0
    → count_of objects w ≡ 0
    → plan_of w f ≡ empty_plan
unfolding plan_of pieces_from list_from
no_counts w f m p l o = rw (m, p, l, o)

pub zero_bytes : (k : ℕ) → plan_at (replicate k 0) ≡ empty_plan
zero_bytes k =
    let z : (i : ℕ) → i < plan_words → word_of (plan_table 0 (replicate k 0) []) i ≡ 0 = zero_plan 0 k [] in
    no_counts _ _ (z 0 (omega arith)) (z 1 (omega arith)) (z 2 (omega arith)) (z 3 (omega arith))

pub runs_pass
    : {plan : List ℕ}
    → Run plan
    → SoundLit (plan_at plan) × ((need : ℕ) (args : List ℕ) → Passes (plan_with need plan args))
runs_pass {plan} r =
    let s = (lit_exact (plan_at plan)).0 (made_lit (run_made r)) in (
      s,
      λ need args. passes (plan_with need plan args) (subst SoundLit (sym (alone need plan args s.solids)) s),
    )
