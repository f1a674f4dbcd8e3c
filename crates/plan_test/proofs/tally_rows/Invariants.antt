-- What the loop of `plan_test::tally_rows` keeps.
use Prim.Native.Nat.{◌*◌, ◌≤◌}
use mathlib.Core.Path.{◌≡◌}
use Rattle.refusals.specs.Refusals.{lowest_of}
use Rattle.plan.specs.Sections as sections
use Rattle.plan.specs.Plan.{pieces_from, count_of}
use Rattle.record_test.specs.Numbers.{piece_own}
use Rattle.plan_test.specs.Tests.{cutters_of, places_ok}
use Rattle.plan_test.proofs.tally_rows.Given as goal

abbrev pub invariant-loop-j : goal.invariant-loop-j
invariant-loop-j l =
    (l.materials ≡ count_of sections.materials l.ws)
    × (l.number ≡ lowest_of (piece_own l.planes l.materials) (pieces_from l.ws l.fs l.r l.j))
    × (l.placed ≡ places_ok l.planes 0 (pieces_from l.ws l.fs l.r l.j)) × (l.used ≡ cutters_of (pieces_from l.ws l.fs l.r l.j))
    × (l.used ≤ 4294967295 * l.j)
