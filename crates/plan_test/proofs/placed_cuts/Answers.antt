-- `plan_test::placed_cuts` meets its contract. Assumes nothing.
use Rattle.plan_test.proofs.placed_cuts.Goals as goal

pub returns-then-placed : goal.returns-then-placed
returns-then-placed c = rw (c.if-placed.true, c.pieces_cuts.ensures)
