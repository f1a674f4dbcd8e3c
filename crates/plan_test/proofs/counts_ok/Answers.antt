-- `plan_test::counts_ok` meets its contract: a list of so many has so many. Assumes nothing.
use Rattle.plan.specs.Plan.{seen}
use Rattle.plan_test.proofs.Lists.{counts_words}
use Rattle.plan_test.proofs.counts_ok.Goals as goal

pub returns : goal.returns
returns c =
    let w = c.args.ws.now in
    rw (counts_words w (seen w), c.both-3.ensures, c.both-2.ensures, c.both.ensures)
