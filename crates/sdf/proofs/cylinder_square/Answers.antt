-- `sdf::cylinder_square` meets its contract. Assumes nothing.
use mathlib.Core.Path.{sym}
use Rattle.sdf.specs.Shapes.{cylinder_square}
use Rattle.sdf.proofs.cylinder_square.Goals as goal

pub returns-then-max : goal.returns-then-max
unfolding cylinder_square
returns-then-max c = rw (sym c.max.ensures, c.if-max.true, c.min.ensures)

pub returns : goal.returns
unfolding cylinder_square
returns c =
    rw (sym c.max.ensures, c.if-max.false, c.beyond-2.ensures)
    (rw c.beyond.ensures)
