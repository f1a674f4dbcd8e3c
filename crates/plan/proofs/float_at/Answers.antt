-- `plan::float_at` meets its contract: past the last row there is no float, and 0 by 0 is NaN. Assumes nothing.
use mathlib.Core.Path.{sym}
use native.Mathlib.Omega.{arith}
use lib.Ieee.{nan}
use lib.ListN.{get_or-eq_default}
use Rattle.root.proofs.Nans.{zero_by_zero}
use Rattle.plan.proofs.float_at.Goals as goal

pub returns : goal.returns
returns c =
    rw zero_by_zero
    (sym (get_or-eq_default c.args.fs.now nan (omega arith)))
