-- `scalar::poly` meets its contract. Assumes nothing.
use mathlib.Core.Path.{refl}
use Rattle.scalar.specs.Acos.{poly}
use Rattle.scalar.proofs.poly.Goals as goal

pub returns : goal.returns
unfolding poly
returns c = refl
