-- `record_test::dark` meets its contract. Assumes nothing.
use mathlib.Core.Path.{sym}
use Rattle.record_test.specs.Numbers.{dark}
use Rattle.record_test.proofs.dark.Goals as goal

pub returns-then-no_length : goal.returns-then-no_length
unfolding dark
returns-then-no_length c = rw (sym c.no_length.ensures, c.if-no_length.true)

pub returns-then-no_length-2 : goal.returns-then-no_length-2
unfolding dark
returns-then-no_length-2 c =
    rw (sym c.no_length.ensures, c.if-no_length.false, sym c.no_length-2.ensures, c.if-no_length-2.true)

pub returns : goal.returns
unfolding dark
returns c =
    rw (sym c.no_length.ensures, c.if-no_length.false, sym c.no_length-2.ensures, c.if-no_length-2.false)
    (rw (c.length.ensures, c.cross.ensures))
