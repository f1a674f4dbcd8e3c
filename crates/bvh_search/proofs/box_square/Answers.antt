-- `bvh_search::box_square` meets its contract, by those of its calls. Assumes nothing.
use Rattle.vectors.specs.Vec.{vsplat, vsub, vmax}
use Rattle.bvh_search.specs.Inside.Machine.{box_square}
use Rattle.bvh_search.proofs.box_square.Goals as goal

pub returns : goal.returns
unfolding box_square vsplat vsub vmax
returns c = rw (c.dot.ensures, c.gap-3.ensures, c.gap-2.ensures, c.gap.ensures)
