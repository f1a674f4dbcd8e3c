-- `bvh_boxes::object_box` meets its contract: the list of boxes read at a place, or past its end. Assumes nothing.
use Rattle.plan.specs.Plan.{piece_at}
use Rattle.bvh_boxes.specs.Boxes.{object_box}
use Rattle.bvh_boxes.proofs.Lists.{box_here, box_past}
use Rattle.bvh_boxes.proofs.object_box.Goals as goal

pub returns-then-o-ws : goal.returns-then-o-ws
unfolding piece_at object_box
returns-then-o-ws c = rw (c.object_box.ensures, c.head_at-h.ensures, box_here _ _ _ c.if-o-ws.true)

pub returns : goal.returns
returns c = rw (c.no_box.ensures, box_past _ _ _ c.if-o-ws.false)
