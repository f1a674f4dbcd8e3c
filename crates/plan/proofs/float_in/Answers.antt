-- `plan::float_in` meets its contract: std's NaN is the value NaN. Assumes nothing.
use Rattle.std.proofs.Common.{rules, ◌≡◌, ◌∙◌, refl}
use lib.Ieee.{binary32, nan, of_bits}
use Rattle.plan.proofs.float_in.Goals as goal

std_nan : of_bits binary32 0x7fc0_0000 ≡ nan
unfolding of_bits
std_nan = refl

pub returns : goal.returns
returns c = c.unwrap_or.ensures ∙ rw (c.copied.ensures, std_nan) (c.get.ensures.lookup.4 (search rules) nan)
