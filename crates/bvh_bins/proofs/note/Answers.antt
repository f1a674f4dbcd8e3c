-- `bvh_bins::note` meets its contract: past the last place nothing changes. Assumes nothing.
use Rattle.std.proofs.Common.{sym, arith}
use lib.Seq.{set_out}
use Rattle.bvh_bins.proofs.note.Goals as goal

pub returns-else-i-lt-PLACES : goal.returns-else-i-lt-PLACES
returns-else-i-lt-PLACES c = sym (set_out c.args.places.now _ _ (omega arith))
