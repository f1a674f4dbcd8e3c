-- `root::digits` meets its contract. Assumes nothing.
use Rattle.std.proofs.Common.{ℕ, ◌+◌, ap, ◌∙◌, arith}
use lib.Bits.{and_mask}
use Rattle.root.proofs.Core.{digs_zero, digs_some}
use Rattle.root.proofs.digits.Goals as goal

pub overflow_add-result : goal.overflow_add-result
overflow_add-result c = omega (arith, and_mask c.args.b 23)

pub returns-then-b-eq0 : goal.returns-then-b-eq0
returns-then-b-eq0 c = and_mask c.args.b 23 ∙ digs_zero _ _ c.if-b-eq0.true

pub returns-else-b-eq0 : goal.returns-else-b-eq0
returns-else-b-eq0 c = ap (λ (t : ℕ). t + 8388608) (and_mask c.args.b 23) ∙ digs_some _ _ c.if-b-eq0.false
