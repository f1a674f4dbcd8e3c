-- `bvh_bins::count_in` meets its contract: past the last count nothing changes. Assumes nothing.
use Rattle.std.proofs.Common.{sym, arith}
use lib.Seq.{set_out}
use Rattle.bvh_bins.proofs.count_in.Goals as goal

pub returns-then-k-lt-BINS : goal.returns-then-k-lt-BINS
returns-then-k-lt-BINS c = rw c.plus.ensures (cc)

pub returns-else-k-lt-BINS : goal.returns-else-k-lt-BINS
returns-else-k-lt-BINS c = sym (set_out c.args.n.now _ _ (omega arith))
