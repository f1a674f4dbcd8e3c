-- `bvh_check::refused_number` meets its contract: each return is a case of `refused_number`. Assumes nothing.
use mathlib.Core.Path.{sym}
use Rattle.bvh_check.proofs.refused_number.Goals as goal

pub returns-then-is_good : goal.returns-then-is_good
returns-then-is_good c = rw (sym c.judge.ensures, sym c.is_good.ensures, c.if-is_good.true)

pub returns : goal.returns
returns c = rw (sym c.judge.ensures, sym c.is_good.ensures, c.if-is_good.false)
