-- Every exported call sends the lowest number that applies: its number is a nest of `lower`. Assumes nothing.
use Prim.Native.Nat.{ℕ, zero, suc}
use mathlib.Core.Path.{◌≡◌, refl, sym, ◌∙◌}
use mathlib.Core.Bool.{Bool, true, false, cond, ◌||◌}
use mathlib.Core.List.{List}
use lib.ListN.{length}
use lib.Dec.{eqb, eqb-suc-zero}
use lib.Ieee.{Float}
use Rattle.sdf.specs.declared.Aabb.{Aabb}
use Rattle.std.specs.Prelude.{Option, Some, None}
use Rattle.sdf.specs.Boxes.{bounds_of}
use Rattle.words.specs.Lists.{All}
use Rattle.words.proofs.Runs.{all_map}
use Rattle.refusals.specs.Refusals.{bad_number, wrong_list, too_deep, unless, lower}
use Rattle.refusals.proofs.Lowest.{lower_none, lower_assoc}
use Rattle.plan.specs.Records.{head_at}
use Rattle.plan.specs.Plan.{seen, plan_in}
use Rattle.plan_test.specs.Tests.{objects_number}
use Rattle.plan_entry.specs.Entry.{args_number, room_number, piece_number, record_number}
use Rattle.bvh_build.specs.Tables.{low_enough}
use Rattle.std.specs.Prelude.{Option, Some, None}
use Rattle.emitter.specs.declared.Emitted.{Emitted}
use Rattle.reply.specs.Reply.{done_reply, refused_reply}
use Rattle.wire_lengths.specs.Lengths.{nodes_bytes, order_bytes, short_number}
use Rattle.wire.specs.Lent.{lent_of, ask_table}
use Rattle.wire_lengths.specs.Lengths.{args_before, plan_before, tables_before, tree_tables_before, tree_before, ask_before}
use Rattle.bemitondry_values.specs.Values.{float_reply, box_words, box_reply, root_reply, acos_reply, prim_dist_reply}
use Rattle.bemitondry_values.specs.Values.{prim_bounds_reply}
use Rattle.bemitondry_values.specs.Light.{vec_reply, form_factor_reply, fresnel_reply, f0_reply, diffuse_albedo_reply}
use Rattle.bemitondry_emitter.specs.Emitter.{emitter_number, emitted_reply, emitter_reply}
use Rattle.ask_test.specs.Numbers.{query_number, solids_ask}
use Rattle.bemitondry_ask.specs.Asks.{found_reply, query_reply, dist_mat_reply}
use Rattle.bemitondry_ask.specs.Marches.{trace_reply, shadow_reply}
use Rattle.bemitondry_light.specs.Light.{lit_ask, lit_reply, direct_reply, direct_diffuse_reply}
use Rattle.viewer.specs.Calls.{root_lent, acos_lent, prim_dist_lent, prim_bounds_lent, given_shape, form_factor_lent}
use Rattle.viewer.specs.Calls.{fresnel_lent, f0_lent, diffuse_albedo_lent, emitter_lent, ask_reply}
use Rattle.bemitondry_tree.specs.Trees.{build_number, offered_tree, offer_number}
use Rattle.wire_entry.specs.Entries.{MaterialSent, LightSent, PlaneSent, ObjectSent}
use Rattle.wire_tree.specs.Trees.{build_plan, BuildSent, offer_table, OfferSent}
use Rattle.promises.specs.Lowest.{lowest_in}
use Rattle.promises.specs.Applies.{of_tree, ArgsCall, bounded, args_calls, args_apply, emitter_apply, AskCall}
use Rattle.promises.specs.Applies.{ask_calls, ask_apply, material_apply, light_apply, plane_apply, object_apply}
use Rattle.promises.specs.Applies.{build_apply, offer_apply}
use Rattle.promises.proofs.Cases.{◌&◌}
use Rattle.promises.proofs.Replies.{reply_number, traced_number, sent_number}

-- 0 is no number
none_first : (n : ℕ) → lower 0 n ≡ n
unfolding lower
none_first n = refl

-- ---- calls on arguments alone
abbrev ArgsLowest : ArgsCall → Type 0
ArgsLowest c = (args : List ℕ) (out : ℕ) → (c.lent args out).number ≡ lowest_in (args_apply c args out)

box_number : (n : ℕ) (b : Option Aabb) → (box_reply n b).number ≡ lower n (unless wrong_list (bounded b))
unfolding box_reply done_reply refused_reply unless
box_number n (Some b) = reply_number n (box_words b) refl ∙ sym (lower_none n)
box_number n None = refl

pub args_lowest : All ArgsLowest args_calls
unfolding root_lent acos_lent prim_dist_lent prim_bounds_lent form_factor_lent fresnel_lent f0_lent diffuse_albedo_lent
    root_reply acos_reply prim_dist_reply prim_bounds_reply form_factor_reply fresnel_reply f0_reply diffuse_albedo_reply
    float_reply vec_reply done_reply args_before lowest_in
args_lowest =
    (λ args out. reply_number _ _ refl ∙ simp (lower_assoc, lower_none))
    & (λ args out. reply_number _ _ refl ∙ simp (lower_assoc, lower_none))
    & (λ args out. reply_number _ _ refl ∙ simp (lower_assoc, lower_none))
    & (λ args out. box_number _ (bounds_of (given_shape (lent_of args 36))) ∙ simp (lower_assoc, lower_none))
    & (λ args out. reply_number _ _ refl ∙ simp (lower_assoc, lower_none))
    & (λ args out. reply_number _ _ refl ∙ simp (lower_assoc, lower_none))
    & (λ args out. reply_number _ _ refl ∙ simp (lower_assoc, lower_none))
    & (λ args out. reply_number _ _ refl ∙ simp (lower_assoc, lower_none))
    & tt

emitted_number : (e : Option Emitted) → (emitted_reply e).number ≡ 0
unfolding emitted_reply done_reply
emitted_number None = refl
emitted_number (Some e) = refl

pub emitter_lowest
    : (lights args : List ℕ) (out : ℕ)
    → (emitter_lent lights args out).number ≡ lowest_in (emitter_apply lights args out)
unfolding emitter_lent emitter_reply emitter_number args_before lowest_in
emitter_lowest lights args out = reply_number _ _ (emitted_number _) ∙ simp (lower_assoc, lower_none)

-- ---- calls that ask
tree_lowest
    : (tree : ℕ) (nodes order : List ℕ)
    → tree_before tree (length nodes) (length order) ≡ lowest_in (of_tree tree nodes order)
unfolding tree_before tables_before lowest_in unless
tree_lowest tree nodes order =
    pick (eqb tree 1) (eqb tree 0) (short_number (length nodes) nodes_bytes) (short_number (length order) order_bytes)
  where
    pick
        : (b c : Bool) (x y : ℕ)
        → cond b (lower x y) (unless bad_number c)
        ≡ lower (unless bad_number (b || c)) (lower (cond b x 0) (lower (cond b y 0) 0))
    pick true c x y = simp (none_first, lower_none)
    pick false c x y = simp lower_none

abbrev AskLowest : AskCall → Type 0
AskLowest c =
    (plan nodes order : List ℕ) (tree : ℕ) (args : List ℕ) (out : ℕ)
    → (ask_reply c.ask c.need plan nodes order tree args out).number
    ≡ lowest_in (ask_apply c plan nodes order tree args out (ask_table c.need plan nodes order tree args))

-- what a call makes of the number that applies before it
abbrev Goes : AskCall → Type 0
Goes c =
    (before tree : ℕ) (w : List ℕ) (f : List Float)
    → (c.ask before tree w f).number ≡ lower before (lowest_in (c.on tree w f))

asked : (c : AskCall) → Goes c → AskLowest c
unfolding ask_before plan_before args_before lowest_in
asked c h plan nodes order tree args out =
    h _ tree _ _ ∙ rw (tree_lowest tree nodes order) (simp (lower_assoc, lower_none))

goes : All Goes ask_calls
unfolding query_reply dist_mat_reply trace_reply shadow_reply direct_reply direct_diffuse_reply query_number solids_ask lit_ask
    found_reply lit_reply done_reply lowest_in
goes =
    (λ before tree w f. reply_number _ _ refl ∙ simp (lower_assoc, lower_none))
    & (λ before tree w f. reply_number _ _ refl ∙ simp (lower_assoc, lower_none))
    & (λ before tree w f. reply_number _ _ (traced_number _) ∙ simp (lower_assoc, lower_none))
    & (λ before tree w f. reply_number _ _ refl ∙ simp (lower_assoc, lower_none))
    & (λ before tree w f. reply_number _ _ refl ∙ simp (lower_assoc, lower_none))
    & (λ before tree w f. reply_number _ _ refl ∙ simp (lower_assoc, lower_none))
    & tt

pub asks_lowest : All AskLowest ask_calls
asks_lowest = all_map Goes AskLowest asked ask_calls goes

-- ---- calls that write
module _ (plan args out : List ℕ) (n : ℕ) (plan' out' : List ℕ) where
  pub material_lowest
      : MaterialSent plan args out n plan' out' → n ≡ lowest_in (material_apply plan args (length out))
  unfolding record_number plan_before args_before lowest_in
  material_lowest e = sent_number _ _ e.sent ∙ simp (lower_assoc, lower_none)

  pub light_lowest : LightSent plan args out n plan' out' → n ≡ lowest_in (light_apply plan args (length out))
  unfolding record_number plan_before args_before lowest_in
  light_lowest e = sent_number _ _ e.sent ∙ simp (lower_assoc, lower_none)

  pub plane_lowest : PlaneSent plan args out n plan' out' → n ≡ lowest_in (plane_apply plan args (length out))
  unfolding piece_number args_number head_at room_number plan_before args_before lowest_in
  plane_lowest e = sent_number _ _ e.sent ∙ simp (lower_assoc, lower_none)

pub object_lowest
    : (plan nodes order args out : List ℕ) (n : ℕ) (plan' nodes' order' out' : List ℕ)
    → ObjectSent plan nodes order args out n plan' nodes' order' out'
    → n ≡ lowest_in (object_apply plan nodes order args (length out))
unfolding piece_number args_number head_at room_number tree_tables_before tables_before plan_before args_before lowest_in
object_lowest plan nodes order args out n plan' nodes' order' out' e =
    sent_number _ _ e.piece.sent ∙ simp (lower_assoc, lower_none)

-- of objects that are in order, the tree; else nothing is judged of it
of_objects : (o t : ℕ) → cond (eqb o 0) t o ≡ lower o (cond (eqb o 0) t 0)
of_objects zero t = sym (none_first t)
of_objects (suc o) t = rw (eqb-suc-zero o) (sym (lower_none (suc o)))

pub build_lowest
    : (plan nodes order out : List ℕ) (n : ℕ) (nodes' order' out' : List ℕ)
    → BuildSent plan nodes order out n nodes' order' out'
    → n ≡ lowest_in (build_apply plan nodes order (length out))
unfolding build_number tree_tables_before tables_before plan_before args_before done_reply lowest_in
build_lowest plan nodes order out n nodes' order' out' e =
    sent_number _ _ e.sent
    ∙ rw (of_objects (objects_number (build_plan plan)) (unless too_deep (low_enough (build_plan plan))))
    (simp (lower_assoc, lower_none))

pub offer_lowest
    : (plan nodes order given ranks out : List ℕ) (n : ℕ) (nodes' order' out' : List ℕ)
    → OfferSent plan nodes order given ranks out n nodes' order' out'
    → n ≡ lowest_in (offer_apply plan nodes order given ranks (length out))
unfolding offer_number tree_tables_before tables_before plan_before args_before done_reply lowest_in
offer_lowest plan nodes order given ranks out n nodes' order' out' e =
    let w : List ℕ = offer_table plan given ranks in
    sent_number _ _ e.sent
    ∙ rw (of_objects (objects_number (plan_in w)) (offered_tree w (seen w))) (simp (lower_assoc, lower_none))
