-- `bvh_boxes::inside` meets its contract, by those of its calls. Assumes nothing.
use Rattle.bvh_boxes.specs.Boxes.{inside}
use Rattle.bvh_boxes.proofs.inside.Goals as goal

pub returns : goal.returns
unfolding inside
returns c = rw (c.both.ensures, c.at_most-2.ensures, c.at_most.ensures)
