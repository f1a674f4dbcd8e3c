-- `bvh_search::popping` meets its contract, by those of its calls. Assumes nothing.
use Rattle.bvh_search.proofs.popping.Goals as goal

pub returns : goal.returns
returns c = rw c.wrapping_add_u32.ensures.value
