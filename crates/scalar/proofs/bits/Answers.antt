-- `scalar::bits` meets its contract: only a NaN differs from itself. Assumes nothing.
use mathlib.Core.Path.{sym, ap}
use lib.Ieee.{binary32, to_bits}
use Rattle.root.proofs.Nans.{equal_no_nan, unequal_nan}
use Rattle.scalar.proofs.bits.Goals as goal

pub float_to_bits-result : goal.float_to_bits-result
float_to_bits-result c = equal_no_nan _ c.if-x.true

pub returns : goal.returns
unfolding to_bits
returns c = sym (ap (to_bits binary32) (unequal_nan _ c.if-x.false))
