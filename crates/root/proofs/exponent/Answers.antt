-- `root::exponent` meets its contract. Assumes nothing.
use Rattle.root.proofs.Core.{expo_zero, expo_some}
use Rattle.root.proofs.exponent.Goals as goal

pub returns-then-f-eq0 : goal.returns-then-f-eq0
returns-then-f-eq0 c = expo_zero _ c.if-f-eq0.true

pub returns-else-f-eq0 : goal.returns-else-f-eq0
returns-else-f-eq0 c = expo_some _ c.if-f-eq0.false
