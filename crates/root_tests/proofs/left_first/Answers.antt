-- `root_tests::left_first` meets its contract: roots grow, and those of two that are apart differ. Assumes nothing.
use mathlib.Core.Path.{sym, subst}
use lib.Dec.{T}
use Rattle.root_tests.specs.Inside.Tests.{left_first}
use Rattle.root_tests.proofs.Squares.{right_first, parted}
use Rattle.root_tests.proofs.left_first.Goals as goal

pub returns-then-b-a : goal.returns-then-b-a
returns-then-b-a c = λ ea eb hl hr.
    right_first c.args.l c.args.r (subst T (sym c.well_formed.0.1) tt) (subst T (sym c.well_formed.1.0.1) tt) hl hr (rw (sym ea, sym eb) c.if-b-a.true)

pub returns-then-a-b : goal.returns-then-a-b
returns-then-a-b c = λ ea eb hl hr.
    parted c.args.l c.args.r (subst T (sym c.well_formed.0.1) tt) (subst T (sym c.well_formed.1.0.1) tt) hl hr (rw (sym ea, sym eb) c.if-b-a.false)
    (rw (sym ea, sym eb) c.if-a-b.true)

pub returns : goal.returns
unfolding left_first
returns c = λ ea eb hl hr. rw (c.root-2.ensures, c.root.ensures)
