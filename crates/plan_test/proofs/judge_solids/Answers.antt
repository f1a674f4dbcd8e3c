-- `plan_test::judge_solids` meets its contract. Assumes nothing.
use Rattle.plan_test.proofs.Lists.{solids_made, solids_flat}
use mathlib.Core.Path.{sym}
use Rattle.plan_test.proofs.Lists.{solids_words}
use Rattle.plan_test.proofs.judge_solids.Goals as goal

pub returns-then-counts_ok : goal.returns-then-counts_ok
returns-then-counts_ok c =
    rw (solids_words, sym c.counts_ok.ensures, c.if-counts_ok.true)
    (solids_made _ _
    c.tally_rows-p.ensures
    c.tally_rows-o.ensures
    c.fits.ensures
    c.both.ensures
    c.both-placed.ensures
    c.placed_cuts.ensures
    (solids_flat _ _ c.tally_rows-p.ensures c.tally_rows-o.ensures
    c.fits.ensures c.both.ensures c.both-placed.ensures
    c.object_cuts.ensures)
    c.lower-cuts.ensures
    c.lower.ensures
    c.lower-then-counts_ok.ensures)

pub returns : goal.returns
returns c = rw (solids_words, sym c.counts_ok.ensures, c.if-counts_ok.false)
