-- `plan_write::count_of` meets its contract: by the test of the list. Assumes nothing.
use Rattle.plan_write.proofs.count_of.Goals as goal

pub returns-then-among : goal.returns-then-among
returns-then-among c = rw c.if-among.true (cc)

pub returns-else-among : goal.returns-else-among
returns-else-among c = rw c.if-among.false (cc)
