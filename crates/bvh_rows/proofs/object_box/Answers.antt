-- `bvh_rows::object_box` meets its contract: the box of the row that is read, or by the call. Assumes nothing.
use Rattle.plan.specs.Plan.{piece_at}
use Rattle.plan.proofs.Lists.{head_row}
use Rattle.bvh_boxes.specs.Boxes.{object_box}
use Rattle.bvh_boxes.proofs.Lists.{box_here}
use Rattle.bvh_rows.proofs.object_box.Goals as goal

pub returns-then-o-lt-OBJECTS : goal.returns-then-o-lt-OBJECTS
unfolding piece_at object_box
returns-then-o-lt-OBJECTS c =
    rw (box_here _ _ _ c.if-o-ws.true, head_row, c.box_in.ensures)
