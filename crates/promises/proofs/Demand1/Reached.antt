-- Plans that runs of entries make, by their values: each record's words are lent, and taken. Assumes nothing.
use Prim.Native.Nat.{ℕ, ◌+◌, ◌*◌, ◌<◌, ◌≤◌}
use native.Mathlib.Omega.{arith}
use mathlib.Core.Path.{◌≡◌, refl, sym, ◌∙◌, ap, subst}
use mathlib.Core.Bool.{Bool, true, false, cond}
use mathlib.Core.List.{List}
use lib.ListN.{length, take, replicate, length-replicate}
use lib.Dec.{eqb}
use lib.Ieee.{Float, binary32, of_bits, le}
use Rattle.scalar.specs.Ranges.{between}
use Rattle.words.specs.Words.{with_words, sent_words}
use Rattle.words.proofs.Laws.{length_puts, Bytes}
use Rattle.refusals.specs.Ranges.{up_to, within_up_to}
use Rattle.plan.specs.Sections.{plan_words, args_row, cutter_places, materials, lights, planes, objects}
use Rattle.plan.specs.declared.Head.{Head}
use Rattle.plan.specs.declared.Material.{Material}
use Rattle.plan.specs.Records.{word_of, float_of, material_at, light_at}
use Rattle.plan.specs.Plan.{Plan, cuts_by, count_of, seen, plan_in}
use Rattle.plan.specs.With.{with_material, with_light}
use Rattle.plan.proofs.Rows.{float_of_lem, moved, light_same}
use Rattle.plan_test.specs.Tests.{cutters_of}
use Rattle.record_test.specs.Exact.{LightOk}
use Rattle.plan_test.specs.Exact.{PieceOk, PlaceIs, SoundLit}
use Rattle.plan_write.specs.Written.{arg_cuts, section_of}
use Rattle.plan_entry.specs.After.{given_piece, list_of, with_one}
use Rattle.plan_entry.proofs.Accepts.{accepted}
use Rattle.plan_entry.proofs.Entered.{place_for, Placed, placed_for}
use Rattle.reply.specs.Reply.{one_word, reply_of}
use Rattle.wire_lengths.specs.Lengths.{plan_bytes, nodes_bytes, order_bytes, out_bytes}
use Rattle.wire.specs.Lent.{plan_table}
use Rattle.wire_lengths.specs.Lengths.{plan_before}
use Rattle.bemitondry_entry.specs.Entries.{piece_entry, piece_left}
use Rattle.wire_entry.specs.Entries.{EntrySent, object_before}
use Rattle.promises.specs.Bytes.{plan_at, FullPlan, FullTree}
use Rattle.promises.specs.Demand1.{Lent, MaterialOk, MaterialTaken, LightTaken, PieceTaken, entering}
use Rattle.promises.specs.Demand1.{Run, start, material, light, plane, object, empty_plan}
use Rattle.promises.proofs.Demand1.Entries.{Entry, entry_enters, material_entry_lem, light_entry_lem, plane_entry}
use Rattle.promises.proofs.Demand1.Entries.{object_entry}
use Rattle.promises.proofs.Alone.{alone}
use Rattle.promises.proofs.Demand1.Runs.{zero_bytes, runs_pass}
use Rattle.promises.proofs.Demand1.Small.{Small, bytes_zero, given_bytes}
use Rattle.promises.proofs.Demand1.Given.{bytes_of, length_bytes, given_word, head_by, piece_by, given_head}
use Rattle.promises.proofs.Demand1.Given.{given_cuts}

-- every list that is lent in a run is of bytes
abbrev pub OfBytes : {plan : List ℕ} → Run plan → Type 0
OfBytes (start k) = Unit {0}
OfBytes (material args out n plan' out' r e) = (Bytes args × Bytes out) × OfBytes r
OfBytes (light args out n plan' out' r e) = (Bytes args × Bytes out) × OfBytes r
OfBytes (plane args out n plan' out' r e) = (Bytes args × Bytes out) × OfBytes r
OfBytes (object nodes order args out n plan' nodes' order' out' r e) =
    ((Bytes nodes × Bytes order) × (Bytes args × Bytes out)) × OfBytes r

-- full bytes that a run makes, and that hold the plan p
pub record Reached (p : Plan) : Type 0 where
  pub plan : List ℕ
  pub run : Run plan
  pub bytes : OfBytes run
  pub full : FullPlan plan
  pub is : plan_at plan ≡ p

zeros_long : (k : ℕ) → k ≤ length {A = ℕ} (replicate k 0)
zeros_long k = rw (length-replicate {A = ℕ} k 0) (omega arith)

pub reach_none : Reached empty_plan
reach_none =
    record {
      plan = replicate plan_bytes 0;
      run = start plan_bytes;
      bytes = tt;
      full = zeros_long plan_bytes;
      is = zero_bytes plan_bytes;
    }

-- ---- an entry that is taken
abbrev stores : ℕ → List ℕ → List ℕ → List ℕ
stores number left plan = cond (eqb number 0) (with_words plan (take plan_words left)) plan

abbrev out : List ℕ
out = replicate out_bytes 0

sends
    : (number index : ℕ) (left plan : List ℕ)
    → let r = reply_of number (one_word index) in
    EntrySent number index left plan out r.number (stores number left plan) (sent_words out r.words)
sends number index left plan = record { sent = record { number_is = refl; out_is = refl }; plan_is = refl }

stores_full
    : (number : ℕ) (left plan : List ℕ) → number ≡ 0 → FullPlan plan → FullPlan (stores number left plan)
stores_full number left plan z h =
    subst (λ (m : ℕ). FullPlan (stores m left plan)) (sym z) (rw (length_puts plan 0 (take plan_words left)) h)

step
    : {number need : ℕ} {plan args left : List ℕ} {L Taken : Type 0} {after : Plan}
    → Entry number need plan args left L Taken after
    → L × Taken
    → FullPlan plan
    → (r : Run (stores number left plan))
    → OfBytes r
    → Reached after
step {number} {need} {plan} {args} {left} e t h r b =
    let x = entry_enters e (sends number 0 left plan) in
    let sound = (runs_pass r).0.solids in
    record {
      plan = stores number left plan;
      run = r;
      bytes = b;
      full = stores_full number left plan (e.exactly.1 t) h;
      is = sym (alone need (stores number left plan) args sound) ∙ x.entered (x.exactly.1 t);
    }

-- the plan that such bytes hold is sound, and is read so whatever is lent after it
module _ {p : Plan} (r : Reached p) where
  pub reached_sound : SoundLit p
  reached_sound = subst SoundLit r.is (runs_pass r.run).0

  read : (need : ℕ) (args : List ℕ) → plan_in (plan_table need r.plan args) ≡ p
  read need args = alone need r.plan args (runs_pass r.run).0.solids ∙ r.is

  lent_all : (need : ℕ) (g : ℕ → ℕ) → need ≤ 576 → Lent need r.plan (bytes_of g) out
  lent_all need g h =
      record {
        plan_full = r.full;
        args_full = rw (length_bytes g) h;
        out_full = zeros_long out_bytes;
      }

-- ---- a material of zeros
abbrev pub plain_material : Material
plain_material =
    let zero : Float = of_bits binary32 0 in
    record { albedo = record { x = zero; y = zero; z = zero }; roughness = zero; metallic = zero }

plain_ok : MaterialOk plain_material
unfolding within_up_to up_to between le of_bits
plain_ok = record { albedo = tt; roughness = tt; metallic = tt }

abbrev no_words : ℕ → ℕ
no_words k = 0

plain_given : (plan : List ℕ) → material_at (seen (plan_table 20 plan (bytes_of no_words))) args_row ≡ plain_material
unfolding material_at
plain_given plan =
    let w : List ℕ = plan_table 20 plan (bytes_of no_words) in
    let at : (k : ℕ) → k < 144 → float_of (seen w) (plan_words + k) ≡ of_bits binary32 0
    = λ k h. float_of_lem w (plan_words + k) (omega arith)
    ∙ ap (of_bits binary32) (given_word 20 plan no_words k (omega arith) h) in
    rw (at 0 (omega arith), at 1 (omega arith), at 2 (omega arith), at 3 (omega arith), at 4 (omega arith))

pub reach_material : {p : Plan} → Reached p → length p.materials < 64 → Reached (with_material p plain_material)
reach_material {p} r h =
    let args : List ℕ = bytes_of no_words in
    let plan : List ℕ = r.plan in
    let w : List ℕ = plan_table 20 plan args in
    let same = read r 20 args in
    let own = plain_given plan in
    let e = material_entry_lem plan args out in
    let taken : MaterialTaken w
    = record {
      ok = subst MaterialOk (sym own) plain_ok;
      counts = rw same (reached_sound r).solids.counts;
      room = rw same h;
    } in
    subst Reached (rw (same, own))
    (step e (lent_all r 20 no_words (omega arith), taken) r.full
    (material args out _ _ _ r.run (sends _ (count_of materials w) _ plan))
    ((given_bytes no_words (λ i. omega arith), bytes_zero out_bytes), r.bytes))

-- ---- a light that stands in a row of some table
pub reach_light
    : {p : Plan}
    → Reached p
    → (t : List ℕ) (row : ℕ)
    → row < 1706
    → ((i : ℕ) → Small (word_of t i))
    → LightOk (light_at (seen t) row)
    → length p.lights < 16
    → Reached (with_light p (light_at (seen t) row))
reach_light {p} r t row l b ok h =
    let g : ℕ → ℕ = λ k. word_of t (16 * row + k) in
    let args : List ℕ = bytes_of g in
    let plan : List ℕ = r.plan in
    let w : List ℕ = plan_table 60 plan args in
    let same = read r 60 args in
    let own : light_at (seen w) args_row ≡ light_at (seen t) row
    = light_same
    (moved 15 w t args_row row (omega arith) (omega arith) l
    (λ k q. given_word 60 plan g k (omega arith) (omega arith))) (omega arith) in
    let taken : LightTaken w
    = record {
      ok = subst LightOk (sym own) ok;
      counts = rw same (reached_sound r).solids.counts;
      room = rw same h;
    } in
    subst Reached (rw (same, own))
    (step (light_entry_lem plan args out) (lent_all r 60 g (omega arith), taken) r.full
    (light args out _ _ _ r.run (sends _ (count_of lights w) _ plan))
    ((given_bytes g (λ i. b (16 * row + i)), bytes_zero out_bytes), r.bytes))

-- ---- a piece by its words
-- a new piece stands where its list goes on
place_is
    : (among : Bool) (w : List ℕ) (h : Head)
    → Placed among w
    → PlaceIs among (cutters_of (list_of among (plan_in w))) h
    → h.cutters ≡ arg_cuts w
    → place_for among w ≡ h.place
place_is true w h d p c = let e = d.plane refl in omega arith
place_is false w h d p c = let e = d.object refl in omega arith

-- what is asked of it
pub record Comes (among : Bool) (p : Plan) (g : ℕ → ℕ) : Type 0 where
  pub small : (i : ℕ) → Small (g i)
  pub ok : PieceOk among (length p.materials) (piece_by g)
  pub at : PlaceIs among (cutters_of (list_of among p)) (head_by g)
  pub count : length (list_of among p) < (section_of among).most
  pub room : cutters_of p.planes + (cutters_of p.objects + g 2) ≤ cutter_places

module _ (among : Bool) {p : Plan} (r : Reached p) (g : ℕ → ℕ) (c : Comes among p g) where
  abbrev given : List ℕ
  given = bytes_of g

  abbrev on : List ℕ
  on = plan_table 64 r.plan given

  cutters_given : arg_cuts on ≡ g 2
  cutters_given = given_word 64 r.plan g 2 (omega arith) (omega arith)

  cuts_given : cuts_by on (seen on) (args_row + 1) (arg_cuts on) ≡ (piece_by g).cuts
  cuts_given = rw cutters_given (given_cuts r.plan g (g 2) c.ok.few)

  piece_is_taken : PieceTaken among (length given) on
  piece_is_taken =
      let same = read r 64 given in
      let n = cutters_given in
      let few = c.ok.few in
      record {
        own = rw (same, given_head r.plan g) c.ok.own;
        few = omega arith;
        whole = rw (length_bytes g) (omega arith);
        cuts = rw cuts_given c.ok.cuts;
        sound = rw same (reached_sound r).solids;
        room = rw same c.count;
        places = rw (same, n) c.room;
      }

  entering_is : Placed among on → entering among on ≡ piece_by g
  unfolding given_piece
  entering_is d =
      let same = read r 64 given in
      let at = place_is among on (head_by g) d (rw same c.at) (sym cutters_given) in
      rw (at, given_head r.plan g, cuts_given)

  reach_by
      : (before : ℕ) (L : Type 0)
      → Entry (piece_entry before among on (seen on) (length given)) 64 r.plan given
      (piece_left among on (seen on)) L (PieceTaken among (length given) on)
      (with_one among (plan_in on) (entering among on))
      → L
      → (run
      : Run (stores (piece_entry before among on (seen on) (length given)) (piece_left among on (seen on)) r.plan))
      → OfBytes run
      → Reached (with_one among p (piece_by g))
  reach_by before L e l run b =
      let t : L × PieceTaken among (length given) on = (l, piece_is_taken) in
      let d = placed_for among on (accepted before among on (length given) (e.exactly.1 t)) in
      let after : with_one among (plan_in on) (entering among on) ≡ with_one among p (piece_by g)
      = ap (λ (q : Plan). with_one among q (entering among on)) (read r 64 given)
      ∙ ap (with_one among p) (entering_is d) in
      subst Reached after (step e t r.full run b)

pub reach_plane
    : {p : Plan} → Reached p → (g : ℕ → ℕ) → Comes true p g → Reached (with_one true p (piece_by g))
reach_plane r g c =
    let args : List ℕ = bytes_of g in
    let before : ℕ = plan_before (length r.plan) 64 (length args) (length out) in
    let w : List ℕ = plan_table 64 r.plan args in
    reach_by true r g c before (Lent 64 r.plan args out) (plane_entry r.plan args out)
    (lent_all r 64 g (omega arith))
    (plane args out _ _ _ r.run (sends _ (count_of planes w) _ r.plan))
    ((given_bytes g c.small, bytes_zero out_bytes), r.bytes)

pub reach_object
    : {p : Plan} → Reached p → (g : ℕ → ℕ) → Comes false p g → Reached (with_one false p (piece_by g))
reach_object r g c =
    let args : List ℕ = bytes_of g in
    let nodes : List ℕ = replicate nodes_bytes 0 in
    let order : List ℕ = replicate order_bytes 0 in
    let w : List ℕ = plan_table 64 r.plan args in
    let tree : FullTree nodes order
    = record {
      nodes_full = zeros_long nodes_bytes;
      order_full = zeros_long order_bytes;
    } in
    reach_by false r g c (object_before r.plan nodes order args out)
    (Lent 64 r.plan args out × FullTree nodes order)
    (object_entry r.plan args out nodes order) (lent_all r 64 g (omega arith), tree)
    (object nodes order args out _ _ _ _ _ r.run
    (record { piece = sends _ (count_of objects w) _ r.plan; nodes_is = refl; order_is = refl })) (
      ((bytes_zero nodes_bytes, bytes_zero order_bytes), (given_bytes g c.small, bytes_zero out_bytes)),
      r.bytes,
    )
