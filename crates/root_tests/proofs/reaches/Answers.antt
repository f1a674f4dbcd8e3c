-- `root_tests::reaches` meets its contract: by `reached`, with numbers cast. Assumes nothing.
use mathlib.Core.Path.{◌≡◌, sym, subst}
use mathlib.Core.Bool.{true, false, false≢true}
use lib.Dec.{T}
use Rattle.root.proofs.Nans.{equal_no_nan}
use Rattle.root.proofs.Whole.{cast_ok}
use Rattle.float_order.proofs.Order.{yes_of, le_left, number_is}
use Rattle.root_tests.specs.Inside.Tests.{most}
use Rattle.root_tests.proofs.Squares.{reached}
use Rattle.root_tests.proofs.reaches.Goals as goal

never : {A : Type 0} → false ≡ true → A
never e = absurd (false≢true e)

pub float_to_float-result : goal.float_to_float-result
float_to_float-result c =
    cast_ok c.args.w (subst T (sym c.well_formed.1.0.1) tt) (equal_no_nan c.args.w c.if-w.true)

pub float_to_float-result-then-w : goal.float_to_float-result-then-w
float_to_float-result-then-w c =
    cast_ok c.args.w (subst T (sym c.well_formed.1.0.1) tt) (equal_no_nan c.args.w c.if-w.true)

pub float_to_float-result-then-w-2 : goal.float_to_float-result-then-w-2
float_to_float-result-then-w-2 c =
    cast_ok c.args.q (subst T (sym c.well_formed.0.1) tt)
    (subst T (number_is c.args.q) (le_left c.args.q most (yes_of c.if-q.true)))

pub returns-then-w : goal.returns-then-w
returns-then-w c = λ e.
    reached c.args.q c.args.w (subst T (sym c.well_formed.0.1) tt) (subst T (sym c.well_formed.1.0.1) tt) c.if-q.true e

pub returns-else-w : goal.returns-else-w
returns-else-w c e = never e

pub returns-else-q : goal.returns-else-q
returns-else-q c e = never e
