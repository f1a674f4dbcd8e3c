-- `scalar::at_least` meets its contract. Assumes nothing.
use Rattle.scalar.proofs.at_least.Goals as goal

pub returns-then-x-lo : goal.returns-then-x-lo
returns-then-x-lo c = simp c.if-x-lo.true

pub returns-else-x-lo : goal.returns-else-x-lo
returns-else-x-lo c = simp c.if-x-lo.false
