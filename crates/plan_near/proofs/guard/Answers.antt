-- `plan_near::guard` meets its contract: the bound is tested, and no number is none. Assumes nothing.
use lib.Ieee.{of_bits, div}
use Rattle.float_order.proofs.Order.{yes_of}
use Rattle.plan_near.proofs.guard.Goals as goal

pub returns-then-left-t : goal.returns-then-left-t
returns-then-left-t c = λ _. yes_of c.if-left-t.true

pub returns : goal.returns
unfolding div of_bits
returns c = λ n. absurd n
