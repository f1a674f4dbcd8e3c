-- What direct light replies on a loaded table. "Shading points to 10,000; shading normals and views to 1.5 a component;
-- albedo, roughness, metallic 0 to 1."
use Rattle.std.specs.Prelude.{ℕ, Bool, ◌&&◌, List, take, Float}
use Rattle.scalar.specs.F32.{f1}
use Rattle.vectors.specs.declared.Vec3.{Vec3}
use Rattle.refusals.specs.Refusals.{bad_number, unless, lower}
use Rattle.refusals.specs.Ranges.{far, steep, within, within_up_to}
use Rattle.plan.specs.declared.Material.{Material}
use Rattle.plan.specs.declared.QuadLight.{QuadLight}
use Rattle.plan.specs.Sections.{lights}
use Rattle.plan.specs.Plan.{plan_of}
use Rattle.record_test.specs.Numbers.{material_number}
use Rattle.plan_test.specs.Tests.{lit_number}
use Rattle.bvh_search.specs.Field.{field_by}
use Rattle.shade.specs.declared.Lit.{Lit}
use Rattle.panel.specs.Panels.{panels_number}
use Rattle.shade.specs.Direct.{direct_of, direct_diffuse_of}
use Rattle.ask_test.specs.Numbers.{arg_vec, arg_float, tree_number}
use Rattle.reply.specs.declared.Reply.{Reply}
use Rattle.reply.specs.Reply.{bits, done_reply, reply_of}

unfoldable pub site_ok : Vec3 → Vec3 → Bool
site_ok p n = within p far && within n steep

abbrev pub panels : List ℕ → List Float → List QuadLight  -- the plan's lights: of a plan that passes, all of them
panels w f = take lights.most (plan_of w f).lights

-- 8 before 9; given is what the arguments get, p the shading point
unfoldable pub lit_ask : ℕ → ℕ → ℕ → Vec3 → List ℕ → List Float → ℕ
lit_ask before given tree p w f =
    lower (lower (lower before (lower given (lit_number (plan_of w f)))) (tree_number tree w f))
    (panels_number p (panels w f))

unfoldable pub lit_reply : Lit → Reply  -- "x y z, count"
lit_reply l = done_reply (bits l.light.x) (bits l.light.y) (bits l.light.z) l.count 0 0 0 0

-- "point, normal, view, albedo, roughness, metallic"
abbrev pub arg_material : List Float → Material
arg_material f = record { albedo = arg_vec f 9; roughness = arg_float f 12; metallic = arg_float f 13 }

abbrev pub direct_given : List Float → ℕ
direct_given f =
    lower (unless bad_number (site_ok (arg_vec f 0) (arg_vec f 3) && within (arg_vec f 6) steep))
    (material_number (arg_material f))

unfoldable pub direct_reply : ℕ → ℕ → List ℕ → List Float → Reply
direct_reply before tree w f =
    reply_of (lit_ask before (direct_given f) tree (arg_vec f 0) w f)
    (lit_reply
    (direct_of (field_by tree w f) (panels w f) (arg_vec f 0) (arg_vec f 3) (arg_vec f 6) (arg_material f)))

abbrev pub diffuse_given : List Float → ℕ  -- "point, normal, albedo"
diffuse_given f = unless bad_number (site_ok (arg_vec f 0) (arg_vec f 3) && within_up_to (arg_vec f 6) f1)

unfoldable pub direct_diffuse_reply : ℕ → ℕ → List ℕ → List Float → Reply
direct_diffuse_reply before tree w f =
    reply_of (lit_ask before (diffuse_given f) tree (arg_vec f 0) w f)
    (lit_reply (direct_diffuse_of (field_by tree w f) (panels w f) (arg_vec f 0) (arg_vec f 3) (arg_vec f 6)))
