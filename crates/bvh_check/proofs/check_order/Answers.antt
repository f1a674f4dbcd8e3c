-- `bvh_check::check_order` meets its contract: what is left to mark decides. Assumes nothing.
use mathlib.Core.Path.{sym, ◌∙◌}
use native.Mathlib.Omega.{arith}
use Rattle.bvh_rules.proofs.Lists.{marks_end, marks_high, marks_twice, marks_step, order_few, order_many}
use Rattle.bvh_check.proofs.check_order.Goals as goal

pub returns-then-n-gt-PLACES : goal.returns-then-n-gt-PLACES
returns-then-n-gt-PLACES c = order_many _ _ c.if-n-gt-PLACES.true

pub loop-i-init : goal.loop-i-init
loop-i-init c = (omega arith, sym (order_few _ _ c.if-n-gt-PLACES.false))

pub returns-then-x-n : goal.returns-then-x-n
returns-then-x-n c =
    sym (marks_high _ _ _ _ c.loop-i-test.true _ c.order_at-x.ensures c.if-x-n.true)
    ∙ c.loop-i.invariant.1

pub returns-then-seen-x : goal.returns-then-seen-x
returns-then-seen-x c =
    sym
    (marks_twice _ _ _ _ c.loop-i-test.true _ c.order_at-x.ensures
    c.if-x-n.false c.if-seen-x.true)
    ∙ c.loop-i.invariant.1

pub loop-i-preserved : goal.loop-i-preserved
loop-i-preserved c = (
  c.loop-i.invariant.0,
  sym (marks_step _ _ _ _ c.loop-i-test.true _ c.order_at-x.ensures
      c.if-x-n.false c.if-seen-x.false) ∙ c.loop-i.invariant.1,
)

pub returns : goal.returns
returns c = sym (marks_end _ _ _ _ c.loop-i-test.false) ∙ c.loop-i.invariant.1
