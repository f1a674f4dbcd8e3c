-- `plan_test::place_ok` meets its contract, by those of its calls. Assumes nothing.
use Rattle.plan_test.proofs.place_ok.Goals as goal

pub returns : goal.returns
returns c = rw (c.both.ensures, c.place_right.ensures)
