-- `bvh_check::hull_ok` meets its contract, by those of its calls. Assumes nothing.
use Rattle.bvh_rules.specs.Inside.Steps.{hull_ok}
use Rattle.bvh_check.proofs.hull_ok.Goals as goal

pub returns : goal.returns
unfolding hull_ok
returns c =
    rw (c.both-2.ensures, c.both.ensures, c.inside.ensures, c.finite.ensures)
