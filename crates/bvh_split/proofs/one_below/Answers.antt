-- `bvh_split::one_below` meets its contract, by the quotient. Assumes nothing.
use Rattle.bvh_split.proofs.Placed.{one_law}
use Rattle.bvh_split.proofs.one_below.Goals as goal

pub returns : goal.returns
returns c = one_law _ _ _ c.min.ensures
