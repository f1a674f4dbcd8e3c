-- `sdf_caps::ends` meets its contract: by `ends_past`. Assumes nothing.
use Rattle.sdf_caps.proofs.Cones.{ends_past, ends_none}
use Rattle.sdf_caps.proofs.ends.Goals as goal

pub returns-then-cay : goal.returns-then-cay
returns-then-cay c =
    ends_past _ _ _ _ c.past_end-c.ensures c.if-c.true c.if-cay.true c.lesser.ensures

pub returns-else-cay : goal.returns-else-cay
returns-else-cay c = ends_none _ _

pub returns-else-c : goal.returns-else-c
returns-else-c c = ends_none _ _
