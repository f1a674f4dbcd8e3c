-- `sdf_near::size` meets its contract: by `size_above` and `size_other`. Assumes nothing.
use mathlib.Core.Path.{sym, subst}
use lib.Dec.{T}
use Rattle.sdf_near.proofs.Sizes.{size_above, size_other}
use Rattle.sdf_near.proofs.size.Goals as goal

pub returns-then-x : goal.returns-then-x
returns-then-x c = size_above _ c.if-x.true

pub returns : goal.returns
returns c = size_other _ (subst T (sym c.well_formed.0.1) tt) c.if-x.false
