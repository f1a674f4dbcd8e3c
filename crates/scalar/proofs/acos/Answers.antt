-- `scalar::acos` meets its contract. Assumes nothing.
use Rattle.scalar.specs.Acos.{acos_of}
use Rattle.scalar.proofs.acos.Goals as goal

pub returns-then-x : goal.returns-then-x
unfolding acos_of
returns-then-x c = rw (c.if-x.true, c.side.ensures)

pub returns : goal.returns
unfolding acos_of
returns c = rw (c.if-x.false, c.side-2.ensures)
