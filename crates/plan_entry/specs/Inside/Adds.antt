-- What an entry answers, and the table that it leaves.
use Rattle.std.specs.Prelude.{ℕ, ◌≡◌, Bool, cond, List, Result, Ok, Err, eqb, Float}
use Rattle.plan.specs.Sections.{materials, lights, args_row}
use Rattle.plan.specs.Records.{material_at, light_at}
use Rattle.plan.specs.Plan.{count_of, plan_of}
use Rattle.record_test.specs.Numbers.{material_number, light_number}
use Rattle.plan_test.specs.Tests.{solids_of}
use Rattle.plan_write.specs.Written.{arg_cuts, section_of, with_piece, with_material_words, with_light_words}
use Rattle.plan_entry.specs.Entry.{new_place, piece_number, record_number}

unfoldable pub added_of : ℕ → ℕ → Result ℕ ℕ
added_of number index = cond (eqb number 0) (Ok index) (Err number)

-- what an entry answers, and the table that it leaves: `left` where the number is 0
pub record AddsOne (number index : ℕ) (w left : List ℕ) (r : Result ℕ ℕ) (w' : List ℕ) : Type 0 where
  pub answer : r ≡ added_of number index
  pub table : w' ≡ cond (eqb number 0) left w

-- f is the table's floats, bytes how long the arguments are
abbrev pub AddsPiece : ℕ → Bool → List ℕ → List Float → ℕ → Result ℕ ℕ → List ℕ → Type 0
AddsPiece before among w f bytes r w' =
    AddsOne (piece_number before among w f (solids_of (plan_of w f)) bytes) (count_of (section_of among) w) w
    (with_piece among w (new_place among (solids_of (plan_of w f)) (arg_cuts w))) r w'

abbrev pub AddsMaterial : ℕ → List ℕ → List Float → Result ℕ ℕ → List ℕ → Type 0
AddsMaterial before w f r w' =
    AddsOne (record_number before (material_number (material_at f args_row)) materials w) (count_of materials w) w
    (with_material_words w) r w'

abbrev pub AddsLight : ℕ → List ℕ → List Float → Result ℕ ℕ → List ℕ → Type 0
AddsLight before w f r w' =
    AddsOne (record_number before (light_number (light_at f args_row)) lights w) (count_of lights w) w
    (with_light_words w) r w'
