-- `wire_used::put` meets its contract: a part that is loaded and then seen. Assumes nothing.
use native.Mathlib.Omega.{arith}
use Rattle.wire_used.proofs.Loads.{put_law}
use Rattle.wire_used.proofs.put.Goals as goal

pub returns : goal.returns
returns c = λ h k.
    put_law _ _ _ _ _ _ _ h k (omega arith) c.load_part.ensures (c.floats.ensures h k)
