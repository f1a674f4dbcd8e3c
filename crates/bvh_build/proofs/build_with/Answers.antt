-- `bvh_build::build_with` meets its contract: the table has the plan's boxes and the order its objects. Assumes
-- nothing.
use Rattle.bvh_build.proofs.Whole.{lays_plan}
use Rattle.bvh_build.proofs.build_with.Goals as goal

pub returns : goal.returns
returns c =
    lays_plan _ _ _ _ _ _ _ _ _ c.load_boxes.ensures c.number.ensures
    c.build_recursive.ensures
