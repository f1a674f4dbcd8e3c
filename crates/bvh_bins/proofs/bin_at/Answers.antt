-- `bvh_bins::bin_at` meets its contract: the digits of a float between 0.5 and 11 are cut. Assumes nothing.
use Rattle.std.proofs.Common.{T, sym, subst, arith}
use Rattle.bvh_bins.proofs.Placed.{cut_held}
use Rattle.bvh_bins.proofs.bin_at.Goals as goal

pub float_to_bits-b : goal.float_to_bits-b
float_to_bits-b c =
    (cut_held _ _ _ (subst T (sym c.well_formed.0.1) tt) c.from_first.ensures c.to_last-b.ensures).number

pub overflow_sub-result : goal.overflow_sub-result
overflow_sub-result c =
    let k = (cut_held _ _ _ (subst T (sym c.well_formed.0.1) tt) c.from_first.ensures c.to_last-b.ensures).high in
    omega arith

pub overflow_shr-result : goal.overflow_shr-result
overflow_shr-result c =
    let k = (cut_held _ _ _ (subst T (sym c.well_formed.0.1) tt) c.from_first.ensures c.to_last-b.ensures).low in
    omega arith

pub returns : goal.returns
returns c =
    (cut_held _ _ _ (subst T (sym c.well_formed.0.1) tt) c.from_first.ensures c.to_last-b.ensures).is
