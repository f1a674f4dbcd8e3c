-- `root_tests::stays` meets its contract: by `stay_law`. Assumes nothing.
use mathlib.Core.Path.{◌≡◌, sym, subst, ◌∙◌}
use mathlib.Core.Bool.{true, false, false≢true}
use lib.Dec.{T}
use Rattle.root.proofs.Whole.{cast_ok, plain_no_nan}
use Rattle.root_tests.proofs.Squares.{usual_plain, stayed}
use Rattle.root_tests.proofs.stays.Goals as goal

never : {A : Type 0} → false ≡ true → A
never e = absurd (false≢true e)

pub float_to_float-result : goal.float_to_float-result
float_to_float-result c = cast_ok c.args.q (subst T (sym c.well_formed.0.1) tt)
    (plain_no_nan c.args.q (usual_plain c.args.q (subst T (sym c.well_formed.0.1) tt) (sym c.usual.ensures ∙ c.if-usual.true)))

pub float_to_float-result-then-usual-2 : goal.float_to_float-result-then-usual-2
float_to_float-result-then-usual-2 c = cast_ok c.args.w (subst T (sym c.well_formed.1.0.1) tt)
    (plain_no_nan c.args.w (usual_plain c.args.w (subst T (sym c.well_formed.1.0.1) tt) (sym c.usual-then-usual.ensures ∙ c.if-usual-2.true)))

pub float_to_float-result-then-usual-2-2 : goal.float_to_float-result-then-usual-2-2
float_to_float-result-then-usual-2-2 c = cast_ok c.args.w (subst T (sym c.well_formed.1.0.1) tt)
    (plain_no_nan c.args.w (usual_plain c.args.w (subst T (sym c.well_formed.1.0.1) tt) (sym c.usual-then-usual.ensures ∙ c.if-usual-2.true)))

pub returns-then-usual-2 : goal.returns-then-usual-2
returns-then-usual-2 c = λ e.
    let a = c.args in
    stayed a.q a.w (usual_plain a.q (subst T (sym c.well_formed.0.1) tt) (sym c.usual.ensures ∙ c.if-usual.true))
    (usual_plain a.w (subst T (sym c.well_formed.1.0.1) tt) (sym c.usual-then-usual.ensures ∙ c.if-usual-2.true)) e

pub returns-else-usual-2 : goal.returns-else-usual-2
returns-else-usual-2 c = λ e. never e

pub returns-else-usual : goal.returns-else-usual
returns-else-usual c = λ e. never e
