-- `bvh_split::place_at` meets its contract, by those of its calls. Assumes nothing.
use Rattle.bvh_split.proofs.place_at.Goals as goal

pub returns : goal.returns
returns c = λ _. rw (c.bin_of.ensures, c.box_in.ensures, c.member.ensures)
