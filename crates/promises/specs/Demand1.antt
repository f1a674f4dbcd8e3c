-- "A piece and its cutters enter together or nothing changes; each refusal has the number, the answer and the memory
-- that document 01 gives": of the exported calls, on bytes. Definitions only; the theorem is `demand_one` of
-- proofs/Demand1.antt.
use Rattle.std.specs.Prelude.{ℕ, ◌+◌, ◌*◌, ◌<◌, ◌≤◌, ◌≡◌, ◌↔◌, Bool, true, false, List, [], T, length, replicate}
use Rattle.scalar.specs.F32.{f1}
use Rattle.words.specs.Lists.{All}
use Rattle.words.specs.Words.{sent_words}
use Rattle.refusals.specs.Ranges.{up_to, within_up_to}
use Rattle.plan.specs.Sections.{materials, lights, cuts_most, cutter_places, args_row}
use Rattle.plan.specs.declared.Material.{Material}
use Rattle.plan.specs.Records.{material_at, light_at, head_at}
use Rattle.plan.specs.Plan.{Plan, Piece, cuts_by, seen, plan_in}
use Rattle.plan.specs.With.{with_material, with_light}
use Rattle.plan_test.specs.Tests.{counts_ok, cutters_of, objects_number, solids_of, lit_number}
use Rattle.record_test.specs.Exact.{CutterOk, HeadOk, LightOk}
use Rattle.plan_test.specs.Exact.{CountsOk, SoundSolids, SoundLit}
use Rattle.plan_write.specs.Written.{arg_cuts, section_of}
use Rattle.plan_entry.specs.Entry.{new_place}
use Rattle.plan_entry.specs.After.{given_piece, list_of, with_one}
use Rattle.reply.specs.Reply.{one_word, refused_reply}
use Rattle.wire_lengths.specs.Lengths.{nodes_bytes, order_bytes, out_bytes}
use Rattle.wire.specs.Lent.{plan_table}
use Rattle.wire.specs.Sent.{cleared_front}
use Rattle.wire_entry.specs.Entries.{MaterialSent, LightSent, PlaneSent, ObjectSent}
use Rattle.promises.specs.Bytes.{plan_with, plan_at, FullPlan, FullTree}

-- ---- what an entry takes
-- tables of full size, and the arguments that it reads
pub record Lent (need : ℕ) (plan args out : List ℕ) : Type 0 where
  pub plan_full : FullPlan plan
  pub args_full : need ≤ length args
  pub out_full : out_bytes ≤ length out

pub record MaterialOk (m : Material) : Type 0 where
  pub albedo : T (within_up_to m.albedo f1)
  pub roughness : T (up_to m.roughness f1)
  pub metallic : T (up_to m.metallic f1)

-- the material, or the light, that the arguments hold; w is the call's table
pub record MaterialTaken (w : List ℕ) : Type 0 where
  pub ok : MaterialOk (material_at (seen w) args_row)
  pub counts : CountsOk (plan_in w)
  pub room : length (plan_in w).materials < materials.most

pub record LightTaken (w : List ℕ) : Type 0 where
  pub ok : LightOk (light_at (seen w) args_row)
  pub counts : CountsOk (plan_in w)
  pub room : length (plan_in w).lights < lights.most

-- a piece with its cutters, in arguments of so many bytes: a plane, or an object
pub record PieceTaken (among : Bool) (bytes : ℕ) (w : List ℕ) : Type 0 where
  pub own : HeadOk among (length (plan_in w).materials) (head_at w (seen w) args_row)
  pub few : arg_cuts w ≤ cuts_most
  pub whole : 64 + 64 * arg_cuts w ≤ bytes
  pub cuts : All CutterOk (cuts_by w (seen w) (args_row + 1) (arg_cuts w))
  pub sound : SoundSolids (plan_in w)
  pub room : length (list_of among (plan_in w)) < (section_of among).most
  pub places : cutters_of (plan_in w).planes + (cutters_of (plan_in w).objects + arg_cuts w) ≤ cutter_places

-- ---- what an entry leaves: 0 is sent exactly when it is taken; then the plan has one more, else every byte stays
pub record Enters (Taken : Type 0) (need : ℕ) (plan args : List ℕ) (n : ℕ) (plan' : List ℕ)
    (after : Plan) : Type 0
  where
    pub exactly : (n ≡ 0) ↔ Taken
    pub entered : n ≡ 0 → plan_with need plan' args ≡ after
    pub kept : 0 < n → plan' ≡ plan

-- the answer: the number of what entered, or a refusal's
pub record Replied (index : ℕ) (out : List ℕ) (n : ℕ) (out' : List ℕ) : Type 0 where
  pub done : n ≡ 0 → out' ≡ sent_words out (one_word index).words
  pub refused : 0 < n → out' ≡ sent_words out (refused_reply n).words

-- a tree stands for the objects as they were: it is dropped with the change, and stays without
pub record Dropped (n full : ℕ) (table table' : List ℕ) : Type 0 where
  pub dropped : n ≡ 0 → table' ≡ cleared_front table full
  pub kept : 0 < n → table' ≡ table

-- the piece of the arguments, its cutters in the next free places of its list
abbrev pub entering : Bool → List ℕ → Piece
entering among w = given_piece w (new_place among (solids_of (plan_in w)) (arg_cuts w))

-- ---- plans made of zero bytes by any run of entries, taken or refused; no other call writes a plan
pub data Run : List ℕ → Type 0 where
  start : (k : ℕ) → Run (replicate k 0)
  material : {plan : List ℕ} (args out : List ℕ) (n : ℕ) (plan' out' : List ℕ)
      → Run plan → MaterialSent plan args out n plan' out' → Run plan'
  light : {plan : List ℕ} (args out : List ℕ) (n : ℕ) (plan' out' : List ℕ)
      → Run plan → LightSent plan args out n plan' out' → Run plan'
  plane : {plan : List ℕ} (args out : List ℕ) (n : ℕ) (plan' out' : List ℕ)
      → Run plan → PlaneSent plan args out n plan' out' → Run plan'
  object : {plan : List ℕ} (nodes order args out : List ℕ) (n : ℕ) (plan' nodes' order' out' : List ℕ)
      → Run plan → ObjectSent plan nodes order args out n plan' nodes' order' out' → Run plan'

pub record Passes (p : Plan) : Type 0 where  -- what every test of a plan that any call makes gets
  pub counts_pass : counts_ok p ≡ true
  pub objects_pass : objects_number p ≡ 0
  pub solids_pass : (solids_of p).number ≡ 0
  pub lit_pass : lit_number p ≡ 0

abbrev pub empty_plan : Plan
empty_plan = record { materials = []; planes = []; lights = []; objects = [] }

-- ---- the demand
pub record DemandOne : Type 0 where
  pub material_enters : (plan args out : List ℕ) (n : ℕ) (plan' out' : List ℕ)
      → MaterialSent plan args out n plan' out'
      → let w = plan_table 20 plan args in
      Enters (Lent 20 plan args out × MaterialTaken w) 20 plan args n plan'
      (with_material (plan_in w) (material_at (seen w) args_row))
      × Replied (length (plan_in w).materials) out n out'
  pub light_enters : (plan args out : List ℕ) (n : ℕ) (plan' out' : List ℕ)
      → LightSent plan args out n plan' out'
      → let w = plan_table 60 plan args in
      Enters (Lent 60 plan args out × LightTaken w) 60 plan args n plan'
      (with_light (plan_in w) (light_at (seen w) args_row))
      × Replied (length (plan_in w).lights) out n out'
  pub plane_enters : (plan args out : List ℕ) (n : ℕ) (plan' out' : List ℕ)
      → PlaneSent plan args out n plan' out'
      → let w = plan_table 64 plan args in
      Enters (Lent 64 plan args out × PieceTaken true (length args) w) 64 plan args n plan'
      (with_one true (plan_in w) (entering true w))
      × Replied (length (plan_in w).planes) out n out'
  pub object_enters : (plan nodes order args out : List ℕ) (n : ℕ) (plan' nodes' order' out' : List ℕ)
      → ObjectSent plan nodes order args out n plan' nodes' order' out'
      → let w = plan_table 64 plan args in
      Enters ((Lent 64 plan args out × FullTree nodes order) × PieceTaken false (length args) w)
      64 plan args n plan' (with_one false (plan_in w) (entering false w))
      × (Replied (length (plan_in w).objects) out n out'
      × (Dropped n nodes_bytes nodes nodes' × Dropped n order_bytes order order'))
  pub zero_bytes : (k : ℕ) → plan_at (replicate k 0) ≡ empty_plan
  pub alone : (need : ℕ) (plan args : List ℕ)  -- a sound plan is the same whatever is lent after it
      → SoundSolids (plan_at plan) → plan_with need plan args ≡ plan_at plan
  pub runs_pass : {plan : List ℕ} → Run plan
      → SoundLit (plan_at plan) × ((need : ℕ) (args : List ℕ) → Passes (plan_with need plan args))
