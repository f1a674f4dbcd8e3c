-- `sdf::cone` meets its contract. Assumes nothing.
use mathlib.Core.Path.{sym}
use Rattle.sdf.specs.Shapes.{cone}
use Rattle.sdf.proofs.cone.Goals as goal

pub returns-then-baba : goal.returns-then-baba
unfolding cone
returns-then-baba c =
    rw (sym c.sub-ba.ensures)
    (rw (sym c.dot-baba.ensures, c.if-baba.true, c.sphere.ensures)
    (rw c.max.ensures))

pub returns : goal.returns
unfolding cone
returns c =
    rw (sym c.sub-ba.ensures)
    (rw (sym c.dot-baba.ensures, c.if-baba.false, c.cone_body.ensures)
    (rw c.sub.ensures))
