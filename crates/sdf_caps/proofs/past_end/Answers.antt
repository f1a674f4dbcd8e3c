-- `sdf_caps::past_end` meets its contract. Assumes nothing.
use Rattle.sdf_caps.proofs.past_end.Goals as goal

pub returns-then-paba : goal.returns-then-paba
returns-then-paba c = simp c.if-paba.true

pub returns-else-paba : goal.returns-else-paba
returns-else-paba c = simp c.if-paba.false
