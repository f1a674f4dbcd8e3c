-- What the loop of `bvh_build::load_boxes` keeps.
use Rattle.plan.specs.Plan.{plan_of}
use Rattle.bvh_boxes.specs.Boxes.{boxes_of}
use Rattle.bvh_build.proofs.Turns.{Loaded}
use Rattle.bvh_build.proofs.load_boxes.Given as goal

abbrev pub invariant-loop-o : goal.invariant-loop-o
invariant-loop-o l = Loaded (boxes_of (plan_of l.ws l.fs)) l.initial.t l.t l.o
