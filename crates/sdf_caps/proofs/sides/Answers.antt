-- `sdf_caps::sides` meets its contract: by `sides_past`. Assumes nothing.
use Rattle.sdf_caps.proofs.Cones.{sides_past, sides_none}
use Rattle.sdf_caps.proofs.sides.Goals as goal

pub returns-then-y : goal.returns-then-y
returns-then-y c = λ e.
    sides_past _ _ _ _ _ _ _ _ (c.reaches.ensures c.if-reaches.true) c.max-m.ensures
    c.not_below.ensures c.if-z.true c.if-y.true c.lesser.ensures e

pub returns-else-y : goal.returns-else-y
returns-else-y c = λ e. sides_none _ _ _ _

pub returns-else-z : goal.returns-else-z
returns-else-z c = λ e. sides_none _ _ _ _

pub returns-else-reaches : goal.returns-else-reaches
returns-else-reaches c = λ e. sides_none _ _ _ _
