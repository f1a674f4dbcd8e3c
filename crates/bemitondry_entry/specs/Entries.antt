-- "A piece and its cutters enter together or nothing changes." What each entry replies, and the table that it leaves.
use Rattle.std.specs.Prelude.{ℕ, Bool, List, Float}
use Rattle.plan.specs.Sections.{materials, lights, args_row}
use Rattle.plan.specs.Records.{material_at, light_at}
use Rattle.plan.specs.Plan.{plan_of}
use Rattle.record_test.specs.Numbers.{material_number, light_number}
use Rattle.plan_test.specs.Tests.{solids_of}
use Rattle.plan_write.specs.Written.{arg_cuts}
use Rattle.plan_entry.specs.Entry.{piece_number, record_number, new_place}
use Rattle.plan_write.specs.Written.{with_piece}

-- the numbers: before is one that applies already, f the table's floats, bytes how long the arguments are
abbrev pub material_entry : ℕ → List ℕ → List Float → ℕ
material_entry before w f = record_number before (material_number (material_at f args_row)) materials w

abbrev pub light_entry : ℕ → List ℕ → List Float → ℕ
light_entry before w f = record_number before (light_number (light_at f args_row)) lights w

abbrev pub piece_entry : ℕ → Bool → List ℕ → List Float → ℕ → ℕ
piece_entry before among w f bytes = piece_number before among w f (solids_of (plan_of w f)) bytes

abbrev pub piece_left : Bool → List ℕ → List Float → List ℕ  -- behind its list, its cutters in the next free places
piece_left among w f = with_piece among w (new_place among (solids_of (plan_of w f)) (arg_cuts w))
