-- `scalar::at_most` meets its contract. Assumes nothing.
use Rattle.scalar.proofs.at_most.Goals as goal

pub returns-then-x-hi : goal.returns-then-x-hi
returns-then-x-hi c = simp c.if-x-hi.true

pub returns-else-x-hi : goal.returns-else-x-hi
returns-else-x-hi c = simp c.if-x-hi.false
