-- `sdf::cone_body` meets its contract. Assumes nothing.
use Rattle.sdf.specs.Shapes.{cone_body}
use Rattle.sdf.proofs.cone_body.Goals as goal

pub returns : goal.returns
unfolding cone_body
returns c =
    rw (c.cone_at.ensures, c.root-x.ensures, c.max.ensures, c.dot-2.ensures, c.dot.ensures)
