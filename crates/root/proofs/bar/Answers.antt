-- `root::bar` meets its contract. Assumes nothing.
use Rattle.std.proofs.Common.{◌-◌, T, sym, refl, subst}
use lib.Ieee.{binary32, of_bits, to_bits}
use Rattle.root.proofs.Laws.{bits_plain}
use lib.Ieee.Bits.{of_bits-fits}
use Rattle.root.proofs.Whole.{no_nan, no_nan_bits, bits_some, below_small, plain_no_nan, cast_ok, bar_above}
use Rattle.root.proofs.Whole.{bar_others}
use Rattle.root.proofs.bar.Goals as goal

pub float_to_bits-p : goal.float_to_bits-p
float_to_bits-p c = no_nan c.args.b c.if-b.true

pub overflow_sub-a : goal.overflow_sub-a
overflow_sub-a c = bits_some c.args.b (subst T (sym c.well_formed.0.1) tt) c.if-b.true

pub float_from_bits-a : goal.float_from_bits-a
float_from_bits-a c =
    no_nan_bits (to_bits binary32 c.args.b - 1)
    (below_small c.args.b (subst T (sym c.well_formed.0.1) tt) c.if-b.true)

pub float_to_float-m : goal.float_to_float-m
float_to_float-m c =
    let p = to_bits binary32 c.args.b - 1 in
    cast_ok (of_bits binary32 p) (of_bits-fits binary32 p)
    (plain_no_nan (of_bits binary32 p)
    (bits_plain p (below_small c.args.b (subst T (sym c.well_formed.0.1) tt) c.if-b.true)))

pub float_to_float-m-then-b : goal.float_to_float-m-then-b
float_to_float-m-then-b c =
    cast_ok c.args.b (subst T (sym c.well_formed.0.1) tt)
    (no_nan c.args.b c.if-b.true)

pub returns-then-b : goal.returns-then-b
returns-then-b c = bar_above c.args.b _ c.if-b.true refl

pub returns : goal.returns
returns c = bar_others c.args.b c.if-b.false
