-- What a plan is where the entries left it: the statement that the tests are held to.
use Rattle.std.specs.Prelude.{ℕ, ◌+◌, ◌≤◌, ◌≡◌, Bool, true, false, List, [], ◌∷◌, length}
use Rattle.words.specs.Lists.{All}
use Rattle.plan.specs.declared.Head.{Head}
use Rattle.plan.specs.Sections.{cutter_places, cuts_most}
use Rattle.plan.specs.Sections as sections
use Rattle.plan.specs.Plan.{Piece, Plan}
use Rattle.record_test.specs.Exact.{CutterOk, HeadOk, LightOk}
use Rattle.plan_test.specs.Tests.{cutters_of}

pub record PieceOk (planes : Bool) (materials : ℕ) (o : Piece) : Type 0 where  -- a piece with its cutters
  pub own : HeadOk planes materials o.head
  pub few : o.head.cutters ≤ cuts_most
  pub cuts : All CutterOk o.cuts

-- "The 1,024 cutter places are shared from both ends, with no gap": the place of a piece after pieces with so many
-- cutters
abbrev pub PlaceIs : Bool → ℕ → Head → Type 0
PlaceIs true before h = h.place + (before + h.cutters) ≡ cutter_places
PlaceIs false before h = h.place ≡ before

abbrev pub PlacesAre : Bool → ℕ → List Piece → Type 0
PlacesAre planes before [] = Unit {0}
PlacesAre planes before (o ∷ os) = PlaceIs planes before o.head × PlacesAre planes (before + o.head.cutters) os

pub record PiecesOk (planes : Bool) (materials : ℕ) (os : List Piece) : Type 0 where  -- a list of pieces
  pub each : All (PieceOk planes materials) os
  pub places : PlacesAre planes 0 os

pub record CountsOk (p : Plan) : Type 0 where
  pub materials : length p.materials ≤ (sections.materials).most
  pub planes : length p.planes ≤ (sections.planes).most
  pub lights : length p.lights ≤ (sections.lights).most
  pub objects : length p.objects ≤ (sections.objects).most

pub record SoundObjects (p : Plan) : Type 0 where  -- the objects with their cutters
  pub counts : CountsOk p
  pub objects : PiecesOk false (length p.materials) p.objects
  pub room : cutters_of p.objects ≤ cutter_places

pub record SoundSolids (p : Plan) : Type 0 where  -- planes and objects with their cutters
  pub counts : CountsOk p
  pub planes : PiecesOk true (length p.materials) p.planes
  pub objects : PiecesOk false (length p.materials) p.objects
  pub room : cutters_of p.planes + cutters_of p.objects ≤ cutter_places

pub record SoundLit (p : Plan) : Type 0 where
  pub solids : SoundSolids p
  pub lights : All LightOk p.lights
