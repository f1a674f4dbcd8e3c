-- "`lights` of `viewer_emitter_hit` is a slice of light records of fifteen words each (corners, emission). More than
-- 16, or a length that is no whole number of records, gets 2 and no record is judged; else each is tested as on entry
-- (1, 4)."
use Rattle.std.specs.Prelude.{ℕ, ◌+◌, ◌*◌, ◌/◌, ◌%◌, Bool, cond, ◌&&◌, List, length, leb, eqb, Float}
use Rattle.std.specs.Prelude.{Option, Some, None}
use Rattle.vectors.specs.declared.Vec3.{Vec3}
use Rattle.words.specs.Lists.{list_from}
use Rattle.refusals.specs.Refusals.{bad_number, no_room, unless, lower, lowest_of}
use Rattle.refusals.specs.Ranges.{farther, steep, longest, up_to, within}
use Rattle.plan.specs.declared.QuadLight.{QuadLight}
use Rattle.record_test.specs.Numbers.{light_number}
use Rattle.emitter.specs.declared.Emitted.{Emitted}
use Rattle.emitter.specs.Emitter.{emitter_of}
use Rattle.reply.specs.declared.Reply.{Reply}
use Rattle.reply.specs.Reply.{bits, done_reply, reply_of}
use Rattle.wire.specs.Lent.{given_vec}

unfoldable pub records_ok : ℕ → Bool  -- sixty bytes a record, at most sixteen
records_ok bytes = eqb (bytes % 60) 0 && leb bytes 960

unfoldable pub records_in : ℕ → ℕ
records_in bytes = cond (records_ok bytes) (bytes / 60) 0

unfoldable pub lent_light : List ℕ → ℕ → QuadLight  -- record i of the bytes b
lent_light b i =
    record {
      v0 = given_vec b (15 * i + 0);
      v1 = given_vec b (15 * i + 3);
      v2 = given_vec b (15 * i + 6);
      v3 = given_vec b (15 * i + 9);
      emit = given_vec b (15 * i + 12);
    }

abbrev pub lent_lights : List ℕ → List QuadLight
lent_lights b = list_from (lent_light b) 0 (records_in (length b))

unfoldable pub aim_ok : Vec3 → Vec3 → Float → Bool
aim_ok ro rd tmax = within ro farther && (within rd steep && up_to tmax longest)

unfoldable pub emitter_number : ℕ → List ℕ → Vec3 → Vec3 → Float → ℕ
emitter_number before b ro rd tmax =
    lower before
    (lower (lower (unless no_room (records_ok (length b))) (unless bad_number (aim_ok ro rd tmax)))
    (lowest_of light_number (lent_lights b)))

unfoldable pub emitted_reply : Option Emitted → Reply  -- "hit (1 or 0), t, emission x y z"
emitted_reply None = done_reply 0 0 0 0 0 0 0 0
emitted_reply (Some e) = done_reply 1 (bits e.t) (bits e.emit.x) (bits e.emit.y) (bits e.emit.z) 0 0 0

unfoldable pub emitter_reply : ℕ → List ℕ → Vec3 → Vec3 → Float → Reply
emitter_reply before b ro rd tmax =
    reply_of (emitter_number before b ro rd tmax) (emitted_reply (emitter_of (lent_lights b) ro rd tmax))
