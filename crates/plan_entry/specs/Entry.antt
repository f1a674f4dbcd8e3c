-- "A piece and its cutters enter together or nothing changes." What an entry gets, and where a piece's cutters go.
use Rattle.std.specs.Prelude.{ℕ, ◌+◌, ◌-◌, ◌*◌, Bool, cond, ◌&&◌, List, leb, ltb, Float}
use Rattle.refusals.specs.Refusals.{no_room, unless, lower}
use Rattle.plan.specs.Sections.{Section, materials, cutter_places, cuts_most, args_row}
use Rattle.plan.specs.Records.{head_at}
use Rattle.plan.specs.Plan.{cuts_by, count_of, plan_in}
use Rattle.record_test.specs.Numbers.{own_number, cuts_number}
use Rattle.plan_test.specs.declared.Solids.{Solids}
use Rattle.plan_test.specs.Tests.{counts_ok}
use Rattle.plan_write.specs.Written.{arg_cuts, section_of}

-- "Where the number of cutters is above 8, or `args` end before the last cutter, the piece gets 2 and its cutters'
-- words are not judged; its own words are."
unfoldable pub arg_cuts_number : List ℕ → List Float → ℕ → ℕ → ℕ
arg_cuts_number w f bytes n =
    cond (leb n cuts_most && leb (64 + 64 * n) bytes) (cuts_number (cuts_by w f (args_row + 1) n)) no_room

unfoldable pub args_number : Bool → List ℕ → List Float → ℕ → ℕ  -- a piece's arguments, of so many bytes
args_number among w f bytes =
    lower (own_number among (count_of materials w) (head_at w f args_row))
    (arg_cuts_number w f bytes (head_at w f args_row).cutters)

unfoldable pub room_number : ℕ → ℕ → Solids → ℕ → ℕ  -- room: in the list, and among the 1,024
room_number count most s n =
    lower s.number (unless no_room (ltb count most && leb (s.planes + (s.objects + n)) cutter_places))

-- before is a number that applies already, s what the plan's planes and objects get with the places that they use
unfoldable pub piece_number : ℕ → Bool → List ℕ → List Float → Solids → ℕ → ℕ
piece_number before among w f s bytes =
    lower before (lower (args_number among w f bytes)
    (room_number (count_of (section_of among) w) (section_of among).most s (arg_cuts w)))

unfoldable pub record_number : ℕ → ℕ → Section → List ℕ → ℕ  -- materials and lights: the counts alone are tested
record_number before own s w =
    lower (lower before own) (unless no_room (counts_ok (plan_in w) && ltb (count_of s w) s.most))

unfoldable pub new_place : Bool → Solids → ℕ → ℕ  -- of a piece's cutters: objects from the front, planes from the back
new_place among s n = cond among (cutter_places - (s.planes + n)) (cond (leb s.objects cutter_places) s.objects 0)
