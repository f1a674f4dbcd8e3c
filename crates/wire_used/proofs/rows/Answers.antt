-- `wire_used::rows` meets its contract: the words of a row stand where the plan's bytes say. Assumes nothing.
use native.Mathlib.Omega.{arith}
use Rattle.wire_used.proofs.Loads.{rows_law}
use Rattle.wire_used.proofs.rows.Goals as goal

pub returns-then-first-n : goal.returns-then-first-n
returns-then-first-n c = λ h.
    rows_law _ _ _ _ _ _ _ _ c.rest.ensures
    (c.put.ensures (omega arith) (omega (arith, h)))
