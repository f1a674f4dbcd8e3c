-- What each public call of light on single values replies. before is a number that applies already.
use Rattle.std.specs.Prelude.{ℕ, Bool, ◌&&◌, Float}
use Rattle.scalar.specs.F32.{f1}
use Rattle.scalar.specs.Ranges.{magnitude}
use Rattle.vectors.specs.declared.Vec3.{Vec3}
use Rattle.refusals.specs.Refusals.{bad_number, unless, lower}
use Rattle.refusals.specs.Ranges.{farthest, widest, within, within_up_to}
use Rattle.plan.specs.declared.Material.{Material}
use Rattle.record_test.specs.Numbers.{material_number}
use Rattle.quad.specs.declared.Quad.{Quad}
use Rattle.ltc.specs.FormFactor.{form_factor_of}
use Rattle.bsdf.specs.Bsdf.{fresnel_of, f0_of, diffuse_albedo_of}
use Rattle.reply.specs.declared.Reply.{Reply}
use Rattle.reply.specs.Reply.{bits, done_reply, reply_of}
use Rattle.bemitondry_values.specs.Values.{float_reply}

unfoldable pub vec_reply : ℕ → Vec3 → Reply
vec_reply n v = reply_of n (done_reply (bits v.x) (bits v.y) (bits v.z) 0 0 0 0 0)

unfoldable pub quad_ok : Quad → Bool  -- "`quad_form_factor` corners to 200,000"
quad_ok q =
    within q.v0 farthest && (within q.v1 farthest && (within q.v2 farthest && within q.v3 farthest))

unfoldable pub form_factor_reply : ℕ → Quad → Reply
form_factor_reply before q = float_reply (lower before (unless bad_number (quad_ok q))) (form_factor_of q)

unfoldable pub fresnel_reply : ℕ → Float → Vec3 → Reply  -- "Fresnel cosines to 10, F0 0 to 1"
fresnel_reply before c r =
    vec_reply (lower before (unless bad_number (magnitude c widest && within_up_to r f1))) (fresnel_of c r)

unfoldable pub f0_reply : ℕ → Material → Reply  -- a material is tested as on entry
f0_reply before m = vec_reply (lower before (material_number m)) (f0_of m.albedo m.metallic)

unfoldable pub diffuse_albedo_reply : ℕ → Material → Reply
diffuse_albedo_reply before m = vec_reply (lower before (material_number m)) (diffuse_albedo_of m.albedo m.metallic)
