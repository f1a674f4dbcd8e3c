-- `bvh_check::judge` meets its contract: each return is a case of `judge_of`. Assumes nothing.
use mathlib.Core.Path.{sym, ◌∙◌}
use Rattle.bvh_rules.proofs.Level.{judge_none, judge_order, judge_whole}
use Rattle.bvh_check.proofs.judge.Goals as goal

pub returns-then-n-eq0 : goal.returns-then-n-eq0
returns-then-n-eq0 c = judge_none _ _ _ _ _ _ c.objects-n.ensures c.if-n-eq0.true

pub returns-then-check_order : goal.returns-then-check_order
returns-then-check_order c =
    c.whole.ensures ∙ judge_whole _ _ _ _ _ _ c.objects-n.ensures
    c.if-n-eq0.false
    (sym c.check_order.ensures ∙ c.if-check_order.true) _
    c.node_at-top.ensures _ c.check_sub.ensures

pub returns : goal.returns
returns c =
    judge_order _ _ _ _ _ _ c.objects-n.ensures c.if-n-eq0.false
    (sym c.check_order.ensures ∙ c.if-check_order.false)
