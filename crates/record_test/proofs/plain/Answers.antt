-- `record_test::plain` meets its contract, by the law of a primitive all of whose floats are in range. Assumes nothing.
use mathlib.Core.Path.{sym, ap, ◌∙◌}
use mathlib.Core.Bool.{not, false≢true}
use Rattle.refusals.specs.Prims.{no_length}
use Rattle.record_test.specs.Inside.Prims.{none_below}
use Rattle.record_test.proofs.Prims.{plain_number}
use Rattle.record_test.proofs.plain.Goals as goal

pub returns-then-kind : goal.returns-then-kind
returns-then-kind c e = absurd (false≢true e)

pub returns-then-kind-2 : goal.returns-then-kind-2
returns-then-kind-2 c e = absurd (false≢true e)

pub returns-then-none_below : goal.returns-then-none_below
returns-then-none_below c e =
    plain_number _ _ _ _ (sym c.none_above.ensures ∙ c.if-none_above.true)
    (sym (ap not (c.no_length.ensures ∙ ap no_length c.sub.ensures)) ∙ e) _ c.if-kind.false
    c.if-kind-2.false
    (sym (c.none_below.ensures ∙ ap (none_below _ _ _ _) c.least_of.ensures) ∙ c.if-none_below.true)

pub returns-else-none_below : goal.returns-else-none_below
returns-else-none_below c e = absurd (false≢true e)

pub returns-else-none_above : goal.returns-else-none_above
returns-else-none_above c e = absurd (false≢true e)
