-- `sdf_caps::square` meets its contract. Assumes nothing.
use mathlib.Core.Path.{sym}
use Rattle.sdf_caps.proofs.square.Goals as goal

pub returns-then-max : goal.returns-then-max
returns-then-max c = rw (sym c.max.ensures, c.if-max.true, c.min.ensures)

pub returns : goal.returns
returns c = rw (sym c.max.ensures, c.if-max.false, c.beyond.ensures)
