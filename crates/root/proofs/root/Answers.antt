-- `root::root` meets its contract, by the cases of `Whole`. Assumes nothing.
use Rattle.std.proofs.Common.{T, sym, ◌∙◌, subst}
use Rattle.root.proofs.Whole.{no_nan, no_nan_bits, at_plain, at_infinity, at_zeros, at_others}
use Rattle.root.proofs.Nans.{zero_by_zero}
use Rattle.root.proofs.root.Goals as goal

pub float_to_bits-b : goal.float_to_bits-b
float_to_bits-b c = no_nan c.args.x c.if-x.true

pub float_from_bits-result : goal.float_from_bits-result
float_from_bits-result c = no_nan_bits c.root_bits.result c.root_bits.ensures.0

pub returns-then-b-lt2139095040 : goal.returns-then-b-lt2139095040
returns-then-b-lt2139095040 c =
    at_plain c.args.x c.root_bits.result (subst T (sym c.well_formed.0.1) tt)
    c.if-x.true c.if-b-lt2139095040.true
    (c.root_bits.ensures.1 c.if-b-lt2139095040.true)

pub returns-then-x : goal.returns-then-x
returns-then-x c = at_infinity c.args.x (subst T (sym c.well_formed.0.1) tt) c.if-x.true c.if-b-lt2139095040.false

pub returns-then-x-2 : goal.returns-then-x-2
returns-then-x-2 c = at_zeros c.args.x c.if-x-2.true

pub returns : goal.returns
returns c = zero_by_zero ∙ at_others c.args.x c.if-x.false c.if-x-2.false
