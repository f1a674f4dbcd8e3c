-- `bvh_range::upper` meets its contract: each of its calls finds the greater. Assumes nothing.
use Rattle.bvh_range.proofs.Numbers.{max_by}
use Rattle.bvh_range.proofs.upper.Goals as goal

pub returns : goal.returns
returns c =
    max_by _ _ _ _ _ c.greater.ensures c.greater-2.ensures c.greater-3.ensures
