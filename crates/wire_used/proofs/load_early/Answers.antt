-- `wire_used::load_early` meets its contract: three parts of a new table. Assumes nothing.
use native.Mathlib.Omega.{arith}
use Rattle.wire_used.proofs.Loads.{begun}
use Rattle.wire_used.proofs.load_early.Goals as goal

pub returns : goal.returns
returns c = λ zero none nodes.
    begun _ _ nodes _ _ _ _ _ _ _ _ _ (omega arith) (omega arith) zero none
    (c.rows.ensures (omega arith)) (c.put.ensures (omega arith) (omega arith))
    (c.put-2.ensures (omega arith) (omega arith))
