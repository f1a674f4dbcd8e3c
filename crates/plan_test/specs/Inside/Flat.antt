-- The number of all objects' cutters as one list, as the code works it out.
use Rattle.std.specs.Prelude.{ℕ, ◌+◌, Bool, cond, List, leb, Float}
use Rattle.refusals.specs.Refusals.{no_room}
use Rattle.plan.specs.Sections.{cutter_row, cutter_places}
use Rattle.plan.specs.Plan.{cuts_by}
use Rattle.record_test.specs.Numbers.{cuts_number}

-- `used` cutters from the first place on, where every place is right
abbrev pub cuts_flat : List ℕ → List Float → Bool → ℕ → ℕ
cuts_flat w f placed used =
    cond placed (cond (leb used cutter_places) (cuts_number (cuts_by w f (cutter_row + 0) used)) no_room) no_room
