-- `bvh_range::object_at` meets its contract: past its end a range holds nothing. Assumes nothing.
use mathlib.Core.Path.{sym}
use lib.ListN.{get_or-eq_default}
use Rattle.bvh_range.proofs.object_at.Goals as goal

pub returns : goal.returns
returns c = sym (get_or-eq_default c.args.os.now 0 c.if-i-os.false)
