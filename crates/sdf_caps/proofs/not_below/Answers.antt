-- `sdf_caps::not_below` meets its contract. Assumes nothing.
use Rattle.sdf_caps.proofs.not_below.Goals as goal

pub returns-then-x : goal.returns-then-x
returns-then-x c = simp c.if-x.true

pub returns-else-x : goal.returns-else-x
returns-else-x c = simp c.if-x.false
