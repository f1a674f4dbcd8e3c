-- `bvh_range::wider` meets its contract: each of its calls finds the lesser or the greater. Assumes nothing.
use Rattle.bvh_range.proofs.Numbers.{merge_by}
use Rattle.bvh_range.proofs.wider.Goals as goal

pub returns : goal.returns
returns c =
    merge_by _ _ _ _ _ _ _ _ c.lesser.ensures c.lesser-2.ensures c.lesser-3.ensures
    c.greater.ensures c.greater-2.ensures c.greater-3.ensures
