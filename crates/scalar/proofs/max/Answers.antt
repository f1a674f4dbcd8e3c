-- `scalar::max` meets its contract: each return is a case of `fmax`. Assumes nothing.
use Rattle.scalar.specs.Extremes.{fmax}
use Rattle.scalar.proofs.max.Goals as goal

pub returns-then-a-b : goal.returns-then-a-b
unfolding fmax
returns-then-a-b c = simp c.if-a-b.true

pub returns-then-b : goal.returns-then-b
unfolding fmax
returns-then-b c = simp (c.if-a-b.false, c.if-b.true)

pub returns : goal.returns
unfolding fmax
returns c = simp (c.if-a-b.false, c.if-b.false)
