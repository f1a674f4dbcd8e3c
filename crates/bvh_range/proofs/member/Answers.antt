-- `bvh_range::member` meets its contract, by those of its calls. Assumes nothing.
use Rattle.bvh_range.proofs.member.Goals as goal

pub returns : goal.returns
returns c = rw (c.row_at.ensures, c.object_at.ensures)
