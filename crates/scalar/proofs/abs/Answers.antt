-- `scalar::abs` meets its contract: std's is the definition's, by the cases of a value. Assumes nothing.
use Rattle.std.proofs.Common.{◌≡◌, false, ◌∙◌, refl}
use Rattle.std.specs.Float.{float_with_sign}
use lib.Ieee.{Float, nan, inf, fin}
use Rattle.scalar.specs.Signs.{abs_of}
use Rattle.scalar.proofs.abs.Goals as goal

with_sign : (x : Float) → float_with_sign false x ≡ abs_of x
unfolding abs_of float_with_sign
with_sign nan = refl
with_sign (inf s) = refl
with_sign (fin s m e) = refl

pub returns : goal.returns
returns c = c.abs.ensures.value ∙ with_sign c.args.x
