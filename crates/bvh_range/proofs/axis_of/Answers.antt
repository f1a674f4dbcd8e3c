-- `bvh_range::axis_of` meets its contract: each return is a case of `axis_of`. Assumes nothing.
use mathlib.Core.Path.{sym}
use Rattle.bvh_range.specs.Range.{axis_of}
use Rattle.bvh_range.proofs.axis_of.Goals as goal

pub returns-then-both : goal.returns-then-both
unfolding axis_of
returns-then-both c = rw (sym c.both.ensures, c.if-both.true)

pub returns-then-e : goal.returns-then-e
unfolding axis_of
returns-then-e c = rw (sym c.both.ensures, c.if-both.false, c.if-e.true)

pub returns : goal.returns
unfolding axis_of
returns c = rw (sym c.both.ensures, c.if-both.false, c.if-e.false)
