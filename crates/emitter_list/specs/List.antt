-- "`emitter_hit` tests each lent record as on entry" (1, 4), and more than 16 get 2: then no record is judged.
use Rattle.std.specs.Prelude.{ℕ, Bool, cond, List, [], length, leb, Float}
use Rattle.vectors.specs.declared.Vec3.{Vec3}
use Rattle.refusals.specs.Refusals.{bad_number, no_room, unless, lower, lowest_of}
use Rattle.plan.specs.declared.QuadLight.{QuadLight}
use Rattle.record_test.specs.Numbers.{light_number}
use Rattle.emitter.specs.Emitter.{emitter_of}
use Rattle.reply.specs.declared.Reply.{Reply}
use Rattle.reply.specs.Reply.{reply_of}
use Rattle.bemitondry_emitter.specs.Emitter.{aim_ok, emitted_reply}

unfoldable pub few : ℕ → Bool
few n = leb n 16

unfoldable pub judged : List QuadLight → List QuadLight  -- the lights that are gone through
judged ls = cond (few (length ls)) ls []

unfoldable pub asked_number : ℕ → Vec3 → Vec3 → Float → ℕ  -- what n lights and a ray get, whatever the lights are
asked_number n ro rd tmax = lower (unless no_room (few n)) (unless bad_number (aim_ok ro rd tmax))

unfoldable pub list_number : List QuadLight → Vec3 → Vec3 → Float → ℕ
list_number ls ro rd tmax = lower (asked_number (length ls) ro rd tmax) (lowest_of light_number (judged ls))

unfoldable pub list_reply : List QuadLight → Vec3 → Vec3 → Float → Reply
list_reply ls ro rd tmax = reply_of (list_number ls ro rd tmax) (emitted_reply (emitter_of (judged ls) ro rd tmax))
