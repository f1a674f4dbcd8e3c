-- `root::at_least` meets its contract. Assumes nothing.
use Rattle.std.proofs.Common.{T, sym, subst}
use Rattle.root.proofs.Whole.{cast_ok, at_least_nan}
use Rattle.root.proofs.Nans.{equal_no_nan}
use Rattle.root.proofs.at_least.Goals as goal

pub float_to_float-result : goal.float_to_float-result
float_to_float-result c =
    cast_ok c.args.x (subst T (sym c.well_formed.0.1) tt)
    (equal_no_nan c.args.x c.if-x.true)

pub returns : goal.returns
returns c = at_least_nan c.args.x c.args.t c.if-x.false
