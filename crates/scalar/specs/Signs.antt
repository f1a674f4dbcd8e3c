-- Magnitude and sign, as Rust's `abs` and `signum`: a NaN stays one, minus zero has the sign of what is below zero.
use Rattle.std.specs.Prelude.{Bool, false, pos, Float}
use Rattle.std.specs.Float.{nan, inf, fin}

unfoldable pub abs_of : Float → Float
abs_of nan = nan
abs_of (inf s) = inf false
abs_of (fin s m e) = fin false m e

abbrev pub unit : Bool → Float  -- 1 with a sign
unit s = fin s 1 (pos 0)

unfoldable pub signum_of : Float → Float
signum_of nan = nan
signum_of (inf s) = unit s
signum_of (fin s m e) = unit s
