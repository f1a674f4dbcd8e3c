-- What marches reply on a loaded table: a ray's, and a shadow's. "`k` 0 to 1,000."
use Rattle.std.specs.Prelude.{ℕ, ◌&&◌, Option, Some, None, List, Float}
use Rattle.refusals.specs.Refusals.{lower}
use Rattle.refusals.specs.Ranges.{sharpest, up_to}
use Rattle.bvh_search.specs.Field.{field_by}
use Rattle.trace.specs.declared.Hit.{Hit}
use Rattle.trace.specs.declared.Ray.{Ray}
use Rattle.trace.specs.declared.Shadow.{Shadow}
use Rattle.trace.specs.declared.Traced.{Traced}
use Rattle.trace.specs.Trace.{trace_of}
use Rattle.trace.specs.Shadow.{shadow_of}
use Rattle.reply.specs.declared.Reply.{Reply}
use Rattle.reply.specs.Reply.{bits, done_reply, reply_of}
use Rattle.ask_test.specs.Numbers.{arg_vec, arg_float, tree_number, solids_ask, ray_given}

abbrev pub arg_ray : List Float → Ray  -- the ray in the arguments
arg_ray f = record { ro = arg_vec f 0; rd = arg_vec f 3; tmin = arg_float f 6; tmax = arg_float f 7 }

-- "hit (1 or 0), t, point x y z, material, count; on a miss every word but the count is 0"
abbrev pub hit_reply : Option Hit → ℕ → Reply
hit_reply (Some h) n =
    done_reply 1 (bits h.t) (bits h.p.x) (bits h.p.y) (bits h.p.z) h.mat n 0
hit_reply None n = done_reply 0 0 0 0 0 0 n 0

unfoldable pub traced_reply : Traced → Reply
traced_reply t = hit_reply t.hit t.count

unfoldable pub trace_reply : ℕ → ℕ → List ℕ → List Float → Reply
trace_reply before tree w f =
    reply_of (lower (solids_ask before (ray_given f) w f) (tree_number tree w f))
    (traced_reply (trace_of (field_by tree w f) (arg_vec f 0) (arg_vec f 3) (arg_float f 6) (arg_float f 7)))

abbrev pub seen_reply : Shadow → Reply  -- "visibility, count"
seen_reply s = done_reply (bits s.vis) s.count 0 0 0 0 0 0

unfoldable pub shadow_reply : ℕ → ℕ → List ℕ → List Float → Reply
shadow_reply before tree w f =
    reply_of (lower (solids_ask before (ray_given f && up_to (arg_float f 8) sharpest) w f) (tree_number tree w f))
    (seen_reply
    (shadow_of (field_by tree w f) (arg_vec f 0) (arg_vec f 3) (arg_float f 6) (arg_float f 7) (arg_float f 8)))
