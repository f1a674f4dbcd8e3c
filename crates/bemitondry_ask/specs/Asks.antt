-- What a query and a distance reply on a loaded table; before, w and f are as in ask_test, specs/Numbers.
use Rattle.std.specs.Prelude.{ℕ, List, Float}
use Rattle.refusals.specs.Refusals.{lower}
use Rattle.refusals.specs.Ranges.{farthest, within}
use Rattle.plan.specs.declared.DistHit.{DistHit}
use Rattle.plan_write.specs.Written.{arg_word}
use Rattle.bvh_search.specs.declared.Searched.{Searched}
use Rattle.bvh_search.specs.Field.{hit_by, field_by}
use Rattle.ask_test.specs.Numbers.{arg_vec, arg_float, tree_number, query_number, solids_ask}
use Rattle.reply.specs.declared.Reply.{Reply}
use Rattle.reply.specs.Reply.{bits, done_reply, reply_of}

unfoldable pub found_reply : DistHit → ℕ → ℕ → Reply  -- distance, material, nodes popped, objects evaluated
found_reply h popped evaluated = done_reply (bits h.d) h.mat popped evaluated 0 0 0 0

abbrev pub query_bound : List ℕ → List Float → DistHit  -- "over the objects alone, from the bound given"
query_bound w f = record { d = arg_float f 3; mat = arg_word w 4 }

abbrev pub searched_reply : Searched → Reply
searched_reply s = found_reply s.hit s.popped s.evaluated

unfoldable pub query_reply : ℕ → ℕ → List ℕ → List Float → Reply
query_reply before tree w f =
    reply_of (lower (query_number before w f) (tree_number tree w f))
    (searched_reply (hit_by tree w f (arg_vec f 0) (query_bound w f)))

unfoldable pub dist_mat_reply : ℕ → ℕ → List ℕ → List Float → Reply  -- the source's `dist_mat`: planes, then objects
dist_mat_reply before tree w f =
    reply_of (lower (solids_ask before (within (arg_vec f 0) farthest) w f) (tree_number tree w f))
    (found_reply (field_by tree w f (arg_vec f 0)) 0 0)
