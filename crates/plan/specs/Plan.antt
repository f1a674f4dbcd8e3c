-- The plan as a value: lists of materials, planes, lights and objects, a piece with its cutters.
use Rattle.std.specs.Prelude.{ℕ, ◌+◌, List, Float}
use Rattle.words.specs.Lists.{list_from}
use Rattle.words.specs.Words.{floats_of}
use Rattle.plan.specs.declared.Material.{Material}
use Rattle.plan.specs.declared.QuadLight.{QuadLight}
use Rattle.plan.specs.declared.Cutter.{Cutter}
use Rattle.plan.specs.declared.Head.{Head}
use Rattle.plan.specs.Sections.{Section, materials, planes, lights, objects, cutter_row, table_words}
use Rattle.plan.specs.Records.{word_of, material_at, light_in, cutter_at, head_at}

abbrev pub Cuts : Type 0  -- a piece's cutters, in order
Cuts = List Cutter

unfoldable pub cuts_by : List ℕ → List Float → ℕ → ℕ → Cuts  -- n cutters from row r on: of a plan, or of arguments
cuts_by w f r n = list_from (cutter_at w f) r n

pub record Piece : Type 0 where
  pub head : Head
  pub cuts : Cuts

unfoldable pub piece_at : List ℕ → List Float → ℕ → Piece  -- the piece in row r of a plan, its cutters from its place on
piece_at w f r =
    record { head = head_at w f r; cuts = cuts_by w f (cutter_row + (head_at w f r).place) (head_at w f r).cutters }

unfoldable pub pieces_from : List ℕ → List Float → ℕ → ℕ → List Piece
pieces_from w f r n = list_from (piece_at w f) r n

pub record Plan : Type 0 where
  pub materials : List Material
  pub planes : List Piece
  pub lights : List QuadLight
  pub objects : List Piece

abbrev pub count_of : Section → List ℕ → ℕ  -- how many records a section has
count_of s w = word_of w s.count

unfoldable pub plan_of : List ℕ → List Float → Plan  -- the plan that a table's words and floats stand for
plan_of w f =
    record {
      materials = list_from (material_at f) materials.first (count_of materials w);
      planes = pieces_from w f planes.first (count_of planes w);
      lights = list_from (light_in f) 0 (count_of lights w);
      objects = pieces_from w f objects.first (count_of objects w);
    }

abbrev pub seen : List ℕ → List Float  -- words seen as floats
seen w = floats_of w table_words

abbrev pub plan_in : List ℕ → Plan  -- the plan of words alone
plan_in w = plan_of w (seen w)
