-- `root_tests::far_off` meets its contract: by `far_by_limit`. Assumes nothing.
use mathlib.Core.Path.{sym, subst}
use lib.Dec.{T}
use Rattle.root_tests.proofs.Squares.{far_by_limit}
use Rattle.root_tests.proofs.far_off.Goals as goal

pub returns : goal.returns
returns c = λ e f. rw e (far_by_limit c.args.s c.args.d f (subst T (sym c.well_formed.1.0.1) tt))
