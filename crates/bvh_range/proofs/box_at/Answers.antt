-- `bvh_range::box_at` meets its contract, by those of its calls. Assumes nothing.
use Rattle.bvh_range.proofs.box_at.Goals as goal

pub returns : goal.returns
returns c = rw (c.box_in.ensures, c.row_at.ensures)
