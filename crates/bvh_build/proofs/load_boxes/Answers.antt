-- `bvh_build::load_boxes` meets its contract: the boxes passed are laid. Assumes nothing.
use Rattle.std.proofs.Common.{arith}
use Rattle.plan.specs.Plan.{plan_of}
use Rattle.bvh_boxes.specs.Boxes.{boxes_of}
use Rattle.bvh_boxes.proofs.Lists.{box_count}
use Rattle.bvh_build.proofs.Turns.{load_none, load_more, load_all}
use Rattle.bvh_build.proofs.load_boxes.Goals as goal

pub loop-o-init : goal.loop-o-init
loop-o-init c = let a = c.args in load_none (boxes_of (plan_of a.ws.now a.fs.now)) a.t.now

pub loop-o-preserved : goal.loop-o-preserved
loop-o-preserved c =
    let L = c.loop-o in
    let a = c.args in
    load_more (boxes_of (plan_of a.ws.now a.fs.now)) _ L.t _ L.o _
    (omega (arith, box_count a.ws.now a.fs.now))
    c.object_box.ensures c.put_box.ensures L.invariant

pub returns : goal.returns
returns c =
    let L = c.loop-o in
    let a = c.args in
    load_all (boxes_of (plan_of a.ws.now a.fs.now)) _ L.t L.o
    (omega (arith, box_count a.ws.now a.fs.now)) L.invariant
