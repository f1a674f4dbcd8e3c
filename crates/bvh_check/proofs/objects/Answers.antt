-- `bvh_check::objects` meets its contract: a list made of a function is as long as it was asked to be. Assumes nothing.
use Rattle.bvh_boxes.proofs.Lists.{box_count}
use Rattle.bvh_check.proofs.objects.Goals as goal

pub returns : goal.returns
returns c = let a = c.args in rw (box_count a.ws.now a.fs.now, c.object_count.ensures)
