-- `record_test::prim_at` meets its contract: by what is plain, or else by the kind. Assumes nothing.
use mathlib.Core.Path.{sym}
use Rattle.record_test.proofs.prim_at.Goals as goal

pub returns-then-plain : goal.returns-then-plain
returns-then-plain c h = sym (c.plain.ensures c.if-plain.true)
