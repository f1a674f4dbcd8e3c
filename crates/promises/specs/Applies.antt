-- The numbers that may apply to each exported call, one list to a call: by the lengths of what is lent, by `tree`, by
-- the arguments, the plan, the tree, the lights. That each call sends the lowest of its list are the theorems of
-- proofs/Applies.antt.
use Rattle.std.specs.Prelude.{Option, Some, None, ℕ, ◌+◌, Bool, true, false, cond, ◌&&◌, ◌||◌, List, [], ◌∷◌, ◌++◌, length, leb, ltb, eqb, Float}
use Rattle.scalar.specs.F32.{f1}
use Rattle.scalar.specs.Ranges.{magnitude}
use Rattle.sdf.specs.declared.Aabb.{Aabb}
use Rattle.sdf.specs.Boxes.{bounds_of}
use Rattle.words.specs.Words.{word_at}
use Rattle.refusals.specs.Refusals.{bad_number, no_room, wrong_list, too_deep, unless, lowest_of}
use Rattle.refusals.specs.Ranges.{greatest, farthest, steep, sharpest, widest, up_to, within, within_up_to}
use Rattle.refusals.specs.Prims.{prim_number}
use Rattle.plan.specs.Sections.{Section, args_row, cutter_places, materials, lights}
use Rattle.plan.specs.Records.{material_at, light_at, head_at}
use Rattle.plan.specs.Plan.{Plan, count_of, plan_of, seen, plan_in}
use Rattle.record_test.specs.Numbers.{material_number, light_number, own_number}
use Rattle.plan_test.specs.Tests.{counts_ok, objects_number, solids_of, lit_number}
use Rattle.plan_write.specs.Written.{arg_cuts, section_of}
use Rattle.plan_entry.specs.Entry.{arg_cuts_number}
use Rattle.bvh_build.specs.Tables.{low_enough}
use Rattle.panel.specs.Panels.{panels_number}
use Rattle.reply.specs.declared.Reply.{Reply}
use Rattle.wire_lengths.specs.Lengths.{plan_bytes, nodes_bytes, order_bytes, out_bytes, short_number}
use Rattle.wire.specs.Lent.{lent_of, given_float, given_vec}
use Rattle.wire.specs.Lent.{plan_table}
use Rattle.bemitondry_values.specs.Light.{quad_ok}
use Rattle.bemitondry_emitter.specs.Emitter.{records_ok, lent_lights, aim_ok}
use Rattle.bemitondry_tree.specs.Trees.{offered_tree}
use Rattle.ask_test.specs.Numbers.{arg_vec, arg_float, tree_number}
use Rattle.bemitondry_ask.specs.Asks.{query_reply, dist_mat_reply}
use Rattle.ask_test.specs.Numbers.{ray_given}
use Rattle.bemitondry_ask.specs.Marches.{trace_reply, shadow_reply}
use Rattle.bemitondry_light.specs.Light.{site_ok, panels, arg_material, direct_reply, direct_diffuse_reply}
use Rattle.viewer.specs.Calls.{root_lent, acos_lent, prim_dist_lent, prim_bounds_lent, given_shape, given_quad, given_material}
use Rattle.viewer.specs.Calls.{form_factor_lent, fresnel_lent, f0_lent, diffuse_albedo_lent, Ask}
use Rattle.wire_tree.specs.Trees.{build_plan, offer_table}

-- ---- by lengths; out is the length of `out`
abbrev pub of_args : ℕ → List ℕ → ℕ → List ℕ
of_args need args out = short_number (length args) need ∷ short_number out out_bytes ∷ []

abbrev pub of_plan : ℕ → List ℕ → List ℕ → ℕ → List ℕ
of_plan need plan args out = short_number (length plan) plan_bytes ∷ of_args need args out

abbrev pub of_tables : List ℕ → List ℕ → List ℕ
of_tables nodes order = short_number (length nodes) nodes_bytes ∷ short_number (length order) order_bytes ∷ []

abbrev pub where_used : ℕ → ℕ → ℕ  -- by `tree`: another number than 0 and 1; and the tables, where it is 1
where_used tree n = cond (eqb tree 1) n 0

abbrev pub of_tree : ℕ → List ℕ → List ℕ → List ℕ
of_tree tree nodes order =
    unless bad_number (eqb tree 1 || eqb tree 0)
    ∷ where_used tree (short_number (length nodes) nodes_bytes)
    ∷ where_used tree (short_number (length order) order_bytes) ∷ []

-- ---- calls on arguments alone: the bytes that each reads, and what its arguments get
pub record ArgsCall : Type 0 where
  pub lent : List ℕ → ℕ → Reply
  pub need : ℕ
  pub given : List ℕ → List ℕ

abbrev pub bounded : Option Aabb → Bool
bounded (Some b) = true
bounded None = false

abbrev pub args_calls : List ArgsCall
args_calls =
    record { lent = root_lent; need = 4; given = λ a. unless bad_number (up_to (given_float a 0) greatest) ∷ [] }
    ∷ record { lent = acos_lent; need = 4; given = λ a. unless bad_number (magnitude (given_float a 0) f1) ∷ [] }
    ∷ record {
      lent = prim_dist_lent;
      need = 48;
      given = λ a. prim_number (word_at a 0) (given_shape a) ∷ unless bad_number (within (given_vec a 9) farthest) ∷ [];
    }
    ∷ record {
      lent = prim_bounds_lent;
      need = 36;
      given = λ a.
          prim_number (word_at a 0) (given_shape a) ∷ unless wrong_list (bounded (bounds_of (given_shape a))) ∷ [];
    }
    ∷ record { lent = form_factor_lent; need = 48; given = λ a. unless bad_number (quad_ok (given_quad a)) ∷ [] }
    ∷ record {
      lent = fresnel_lent;
      need = 16;
      given = λ a. unless bad_number (magnitude (given_float a 0) widest && within_up_to (given_vec a 1) f1) ∷ [];
    }
    ∷ record { lent = f0_lent; need = 20; given = λ a. material_number (given_material a) ∷ [] }
    ∷ record { lent = diffuse_albedo_lent; need = 20; given = λ a. material_number (given_material a) ∷ [] }
    ∷ []

abbrev pub args_apply : ArgsCall → List ℕ → ℕ → List ℕ
args_apply c args out = of_args c.need args out ++ c.given (lent_of args c.need)

abbrev pub emitter_apply : List ℕ → List ℕ → ℕ → List ℕ  -- `viewer_emitter_hit`: its lights too
emitter_apply lights args out =
    let a = lent_of args 28 in
    of_args 28 args out
    ++ (unless no_room (records_ok (length lights))
    ∷ unless bad_number (aim_ok (given_vec a 0) (given_vec a 3) (given_float a 6))
    ∷ lowest_of light_number (lent_lights lights) ∷ [])

-- ---- calls that ask by the tree or by the list: what arguments, plan, tree and lights get, on the call's table
pub record AskCall : Type 0 where
  pub ask : Ask
  pub need : ℕ
  pub on : ℕ → List ℕ → List Float → List ℕ

abbrev pub on_solids : Bool → ℕ → List ℕ → List Float → List ℕ
on_solids given tree w f = unless bad_number given ∷ (solids_of (plan_of w f)).number ∷ tree_number tree w f ∷ []

abbrev pub on_lights : ℕ → List ℕ → List Float → List ℕ
on_lights tree w f = lit_number (plan_of w f) ∷ tree_number tree w f ∷ panels_number (arg_vec f 0) (panels w f) ∷ []

abbrev pub ask_calls : List AskCall
ask_calls =
    record {
      ask = query_reply;
      need = 20;
      on = λ tree w f.
          unless bad_number (within (arg_vec f 0) farthest && magnitude (arg_float f 3) greatest)
          ∷ objects_number (plan_of w f) ∷ tree_number tree w f ∷ [];
    }
    ∷ record { ask = dist_mat_reply; need = 12; on = λ tree w f. on_solids (within (arg_vec f 0) farthest) tree w f }
    ∷ record { ask = trace_reply; need = 32; on = λ tree w f. on_solids (ray_given f) tree w f }
    ∷ record {
      ask = shadow_reply;
      need = 36;
      on = λ tree w f. on_solids (ray_given f && up_to (arg_float f 8) sharpest) tree w f;
    }
    ∷ record {
      ask = direct_reply;
      need = 56;
      on = λ tree w f.
          unless bad_number (site_ok (arg_vec f 0) (arg_vec f 3) && within (arg_vec f 6) steep)
          ∷ material_number (arg_material f) ∷ on_lights tree w f;
    }
    ∷ record {
      ask = direct_diffuse_reply;
      need = 36;
      on = λ tree w f.
          unless bad_number (site_ok (arg_vec f 0) (arg_vec f 3) && within_up_to (arg_vec f 6) f1) ∷ on_lights tree w f;
    }
    ∷ []

abbrev pub ask_apply  -- w is the call's table
    : AskCall → List ℕ → List ℕ → List ℕ → ℕ → List ℕ → ℕ → List ℕ → List ℕ
ask_apply c plan nodes order tree args out w =
    of_plan c.need plan args out ++ (of_tree tree nodes order ++ c.on tree w (seen w))

-- ---- entries, on the table w
abbrev pub on_record : ℕ → Section → List ℕ → List ℕ
on_record own s w = own ∷ unless no_room (counts_ok (plan_in w) && ltb (count_of s w) s.most) ∷ []

abbrev pub material_apply : List ℕ → List ℕ → ℕ → List ℕ
material_apply plan args out =
    let w = plan_table 20 plan args in
    of_plan 20 plan args out ++ on_record (material_number (material_at (seen w) args_row)) materials w

abbrev pub light_apply : List ℕ → List ℕ → ℕ → List ℕ
light_apply plan args out =
    let w = plan_table 60 plan args in
    of_plan 60 plan args out ++ on_record (light_number (light_at (seen w) args_row)) lights w

abbrev pub on_piece : Bool → ℕ → List ℕ → List ℕ
on_piece among bytes w =
    let s = solids_of (plan_in w) in
    own_number among (count_of materials w) (head_at w (seen w) args_row)
    ∷ arg_cuts_number w (seen w) bytes (arg_cuts w)
    ∷ s.number
    ∷ unless no_room
    (ltb (count_of (section_of among) w) (section_of among).most
    && leb (s.planes + (s.objects + arg_cuts w)) cutter_places) ∷ []

abbrev pub plane_apply : List ℕ → List ℕ → ℕ → List ℕ
plane_apply plan args out = of_plan 64 plan args out ++ on_piece true (length args) (plan_table 64 plan args)

abbrev pub object_apply : List ℕ → List ℕ → List ℕ → List ℕ → ℕ → List ℕ
object_apply plan nodes order args out =
    of_plan 64 plan args out ++ (of_tables nodes order ++ on_piece false (length args) (plan_table 64 plan args))

-- ---- build and offer: of objects that are in order, the tree
abbrev pub on_objects : Plan → ℕ → List ℕ
on_objects p tree = objects_number p ∷ cond (eqb (objects_number p) 0) tree 0 ∷ []

abbrev pub build_apply : List ℕ → List ℕ → List ℕ → ℕ → List ℕ
build_apply plan nodes order out =
    of_plan 0 plan [] out
    ++ (of_tables nodes order ++ on_objects (build_plan plan) (unless too_deep (low_enough (build_plan plan))))

abbrev pub offer_apply : List ℕ → List ℕ → List ℕ → List ℕ → List ℕ → ℕ → List ℕ
offer_apply plan nodes order given ranks out =
    let w = offer_table plan given ranks in
    of_plan 0 plan [] out
    ++ (of_tables nodes order ++ (of_tables given ranks ++ on_objects (plan_in w) (offered_tree w (seen w))))
