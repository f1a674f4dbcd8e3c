-- `bvh_search::wait` meets its contract: a store past the end changes nothing. Assumes nothing.
use Rattle.std.proofs.Common.{sym, arith}
use lib.Seq.{set_out}
use Rattle.bvh_search.proofs.wait.Goals as goal

pub returns : goal.returns
returns c = let a = c.args in sym (set_out a.stack.now a.sp a.w (omega arith))
