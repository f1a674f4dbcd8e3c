-- `bvh_range::lower` meets its contract: each of its calls finds the lesser. Assumes nothing.
use Rattle.bvh_range.proofs.Numbers.{min_by}
use Rattle.bvh_range.proofs.lower.Goals as goal

pub returns : goal.returns
returns c =
    min_by _ _ _ _ _ c.lesser.ensures c.lesser-2.ensures c.lesser-3.ensures
