-- `plan_write::one_more` meets its contract: by the test. Assumes nothing.
use borrow.Author.Tests.{lt-ltb, le-ltb}
use Rattle.plan_write.specs.Written.{one_more}
use Rattle.plan_write.proofs.one_more.Goals as goal

pub returns-then-n-lt256 : goal.returns-then-n-lt256
unfolding one_more
returns-then-n-lt256 c = simp (lt-ltb _ _ c.if-n-lt256.true)

pub returns-else-n-lt256 : goal.returns-else-n-lt256
unfolding one_more
returns-else-n-lt256 c = simp (le-ltb _ _ c.if-n-lt256.false)
