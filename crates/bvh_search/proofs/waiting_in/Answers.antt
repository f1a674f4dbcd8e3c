-- `bvh_search::waiting_in` meets its contract: past its end the stack holds nobody. Assumes nothing.
use Rattle.std.proofs.Common.{sym, arith}
use lib.ListN.{get_or-eq_default}
use lib.Ieee.{of_bits, div}
use Rattle.bvh_search.specs.Inside.Machine.{nobody}
use Rattle.bvh_search.proofs.waiting_in.Goals as goal

pub returns : goal.returns
unfolding of_bits div
returns c = let a = c.args in sym (get_or-eq_default a.stack.now nobody (omega arith))
