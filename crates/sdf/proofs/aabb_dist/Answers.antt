-- `sdf::aabb_dist` meets its contract. Assumes nothing.
use Rattle.sdf.specs.Boxes.{box_dist}
use Rattle.sdf.proofs.aabb_dist.Goals as goal

pub returns : goal.returns
unfolding box_dist
returns c =
    rw (c.length.ensures, c.max-2.ensures, c.splat.ensures, c.max.ensures, c.sub-high.ensures)
    (rw c.sub-low.ensures)
