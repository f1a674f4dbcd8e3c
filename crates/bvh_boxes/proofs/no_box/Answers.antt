-- `bvh_boxes::no_box` meets its contract: 0 by 0 is NaN. Assumes nothing.
use Rattle.vectors.specs.Vec.{vsplat}
use Rattle.root.proofs.Nans.{zero_by_zero}
use Rattle.bvh_boxes.proofs.no_box.Goals as goal

pub returns : goal.returns
unfolding vsplat
returns c = rw (c.splat-2.ensures, c.splat.ensures, zero_by_zero)
