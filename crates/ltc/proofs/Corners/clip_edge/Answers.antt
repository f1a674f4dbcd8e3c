-- `Corners::clip_edge` meets its contract: the two parts that the edge may give. Assumes nothing.
use mathlib.Core.Path.{◌≡◌, sym}
use mathlib.Core.Bool.{cond}
use mathlib.Core.List.{[], ◌∷◌, ◌++◌, append-nil}
use lib.ListN.{take}
use Rattle.std.proofs.lemmas.Bool.{not-true, not-false}
use Rattle.ltc.specs.FormFactor.{above, clip_edge}
use Rattle.ltc.proofs.Places.{two_parts, same}
use Rattle.ltc.proofs.Corners.clip_edge.Goals as goal
use Rattle.ltc.proofs.Corners.clip_edge.Goals.{Joined-a, then-a, else-a}

-- the first part: a where it is at or above the horizon
first : (c : Joined-a) → c.if-a.self ≡ take 5 (c.args.self.now ++ cond (above c.args.a) (c.args.a ∷ []) [])
first c =
    elim c.if-a.branch [
      | then-a w ↦ rw (w.self-is, w.if-a.true) w.put.ensures
      | else-a w ↦ rw (w.self-is, w.if-a.false) (same _ c.requires)
    ]

pub returns-then-a-b : goal.returns-then-a-b
unfolding clip_edge
returns-then-a-b c =
    two_parts _ _ _ _ _ (first (goal.at.returns-then-a-b c).Joined-a)
    (rw (not-true _ c.if-a-b.true, sym c.crossing.ensures) c.put-then-a-b.ensures)

pub returns-else-a-b : goal.returns-else-a-b
unfolding clip_edge
returns-else-a-b c =
    rw (not-false _ c.if-a-b.false, append-nil) (first (goal.at.returns-else-a-b c).Joined-a)
