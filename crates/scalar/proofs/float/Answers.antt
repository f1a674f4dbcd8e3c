-- `scalar::float` meets its contract, by the laws of NaN patterns, the sign masked. Assumes nothing.
use Prim.Native.Nat.{ℕ, ◌≤◌, ◌<◌}
use mathlib.Core.Path.{sym, subst, ◌∙◌}
use lib.Bits.{and_mask}
use Rattle.root.proofs.Nans.{above_nan, below_no_nan, zero_by_zero}
use Rattle.scalar.proofs.float.Goals as goal

pub returns-then-w-gt2139095040 : goal.returns-then-w-gt2139095040
returns-then-w-gt2139095040 c =
    let w = c.args.w in
    zero_by_zero ∙ sym (above_nan w (subst (λ (m : ℕ). 2139095040 < m) (and_mask w 31) c.if-w-gt2139095040.true))

pub float_from_bits-result : goal.float_from_bits-result
float_from_bits-result c =
    let w = c.args.w in
    below_no_nan w (subst (λ (m : ℕ). m ≤ 2139095040) (and_mask w 31) c.if-w-gt2139095040.false)
