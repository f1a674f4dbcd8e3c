-- `sdf_caps::over` meets its contract: by `passes`. Assumes nothing.
use Rattle.sdf_caps.proofs.Laws.{passes, stands}
use Rattle.sdf_caps.proofs.over.Goals as goal

pub returns-then-z : goal.returns-then-z
returns-then-z c =
    let r = c.reaches.ensures c.if-reaches.true in
    passes _ _ _ r.0 r.1 c.if-z.true

pub returns-else-z : goal.returns-else-z
returns-else-z c = stands _

pub returns-else-reaches : goal.returns-else-reaches
returns-else-reaches c = stands _
