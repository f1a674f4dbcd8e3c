-- `plan_test::lit_number` meets its contract. Assumes nothing.
use mathlib.Core.Path.{sym}
use Rattle.plan_test.proofs.Lists.{lit_words}
use Rattle.plan_test.proofs.lit_number.Goals as goal

pub returns-then-counts_ok : goal.returns-then-counts_ok
returns-then-counts_ok c =
    rw (lit_words, sym c.counts_ok.ensures, c.if-counts_ok.true)
    (rw (c.lower.ensures, c.lights_number.ensures, c.judge_solids-s.ensures))

pub returns : goal.returns
returns c = rw (lit_words, sym c.counts_ok.ensures, c.if-counts_ok.false)
