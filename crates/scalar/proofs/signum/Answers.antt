-- `scalar::signum` meets its contract: std's is the definition's, by the cases of a value. Assumes nothing.
use Rattle.std.proofs.Common.{◌≡◌, ◌∙◌, refl}
use Rattle.std.specs.Float.{float_signum}
use lib.Ieee.{Float, nan, inf, fin}
use Rattle.scalar.specs.Signs.{signum_of}
use Rattle.scalar.proofs.signum.Goals as goal

std_signum : (x : Float) → float_signum x ≡ signum_of x
unfolding signum_of float_signum
std_signum nan = refl
std_signum (inf s) = refl
std_signum (fin s m e) = refl

pub returns : goal.returns
returns c = c.signum.ensures ∙ std_signum c.args.x
