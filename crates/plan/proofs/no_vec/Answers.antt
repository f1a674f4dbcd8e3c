-- `plan::no_vec` meets its contract: 0 by 0 is NaN. Assumes nothing.
use Rattle.vectors.specs.Vec.{vsplat}
use Rattle.root.proofs.Nans.{zero_by_zero}
use Rattle.plan.proofs.no_vec.Goals as goal

pub returns : goal.returns
unfolding vsplat
returns c = rw (c.splat.ensures, zero_by_zero)
