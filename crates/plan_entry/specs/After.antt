-- What the entries make of the plan as a value, and the plans that they make. Definitions only; the theorems are those
-- of proofs/Entered.antt and Made.antt.
use Rattle.std.specs.Prelude.{ℕ, ◌+◌, ◌≡◌, Bool, true, false, List, length, take, replicate}
use Rattle.plan.specs.declared.Head.{Head}
use Rattle.plan.specs.Sections.{materials, lights, plan_words, args_row, table_words}
use Rattle.plan.specs.Records.{material_at, light_at, head_at}
use Rattle.plan.specs.Plan.{Piece, Plan, cuts_by, seen, plan_in}
use Rattle.plan.specs.With.{with_plane, with_object}
use Rattle.record_test.specs.Numbers.{material_number, light_number}
use Rattle.plan_test.specs.Tests.{solids_of}
use Rattle.plan_write.specs.Written.{arg_cuts, with_piece, with_material_words}
use Rattle.plan_entry.specs.Entry.{piece_number, record_number, new_place}
use Rattle.plan_write.specs.Written.{with_light_words}

abbrev pub placed : Head → ℕ → Head  -- a head with its first cutter at a place
placed h at =
    record {
      material = h.material;
      blend = h.blend;
      cutters = h.cutters;
      kind = h.kind;
      shape = h.shape;
      place = at;
    }

unfoldable pub given_piece : List ℕ → ℕ → Piece  -- the piece that the arguments stand for, its first cutter at a place
given_piece w at =
    record { head = placed (head_at w (seen w) args_row) at; cuts = cuts_by w (seen w) (args_row + 1) (arg_cuts w) }

abbrev pub list_of : Bool → Plan → List Piece  -- the planes, or the objects
list_of true p = p.planes
list_of false p = p.objects

abbrev pub with_one : Bool → Plan → Piece → Plan  -- a plan with a piece more among planes, or among objects
with_one true p o = with_plane p o
with_one false p o = with_object p o

-- a plan made by entries, each with whatever arguments and tree stand after it: the empty one, and what each accepted
-- entry leaves of such a plan
pub data Made : List ℕ → Type 0 where
  empty : Made (replicate table_words 0)
  -- the words after the plan are any
  relent : (w v : List ℕ) → Made w → length v ≡ table_words → take plan_words v ≡ take plan_words w → Made v
  piece : (among : Bool) (bytes : ℕ) (w : List ℕ) → Made w
      → piece_number 0 among w (seen w) (solids_of (plan_in w)) bytes ≡ 0
      → Made (with_piece among w (new_place among (solids_of (plan_in w)) (arg_cuts w)))
  material : (w : List ℕ) → Made w → record_number 0 (material_number (material_at (seen w) args_row)) materials w ≡ 0
      → Made (with_material_words w)
  light : (w : List ℕ) → Made w → record_number 0 (light_number (light_at (seen w) args_row)) lights w ≡ 0
      → Made (with_light_words w)
