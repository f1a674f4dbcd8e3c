-- `sdf::capsule` meets its contract. Assumes nothing.
use Rattle.sdf.specs.Shapes.{capsule}
use Rattle.sdf.proofs.capsule.Goals as goal

pub returns : goal.returns
unfolding capsule
returns c =
    rw (c.length.ensures, c.sub.ensures, c.scale.ensures, c.clamp-h.ensures, c.dot-2.ensures)
    (rw (c.dot.ensures, c.sub-ba.ensures, c.sub-pa.ensures))
