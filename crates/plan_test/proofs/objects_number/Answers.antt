-- `plan_test::objects_number` meets its contract. Assumes nothing.
use mathlib.Core.Path.{sym}
use Rattle.plan_test.proofs.Lists.{objects_flat}
use Rattle.plan_test.proofs.objects_number.Goals as goal

pub returns-then-counts_ok : goal.returns-then-counts_ok
returns-then-counts_ok c =
    rw (objects_flat, sym c.counts_ok.ensures, c.if-counts_ok.true)
    (rw (c.lower.ensures, c.object_cuts.ensures, c.both-placed.ensures)
    (rw c.tally_rows-t.ensures))

pub returns : goal.returns
returns c = rw (objects_flat, sym c.counts_ok.ensures, c.if-counts_ok.false)
