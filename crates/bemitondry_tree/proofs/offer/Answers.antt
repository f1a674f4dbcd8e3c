-- `bemitondry_tree::offer` meets its contract: an accepted tree's words, and else both tables zero. Assumes nothing.
use native.Mathlib.Omega.{arith}
use Rattle.bvh_build.proofs.Whole.{objects_count}
use Rattle.bemitondry_tree.specs.Trees.{judged_tree}
use Rattle.bemitondry_tree.proofs.Raises.{offers, offers_bad, offers_not}
use Rattle.bemitondry_tree.proofs.offer.Goals as goal

pub returns-then-n-eq0 : goal.returns-then-n-eq0
unfolding judged_tree
returns-then-n-eq0 c =
    let count = objects_count _ _ _ c.object_count.ensures in
    offers _ _ _ _ _ _ _ c.objects_number-o.ensures c.if-o-eq0.true c.judge-s.ensures
    c.offered_number.ensures c.lower-n.ensures (omega arith) _ _ _ _ _ _ _
    _ (omega arith) (omega arith) c.if-n-eq0.true
    c.size_in.ensures c.narrow-size.ensures count c.copy_front.ensures c.copy_front-then-n-eq0.ensures
    c.done.ensures

pub returns-then-o-eq0 : goal.returns-then-o-eq0
unfolding judged_tree
returns-then-o-eq0 c =
    offers_bad _ _ _ _ _ _ _ c.objects_number-o.ensures c.if-o-eq0.true c.judge-s.ensures
    c.offered_number.ensures c.lower-n.ensures _ _ _ _ _ (omega arith)
    (omega arith) c.clear.ensures c.clear-then-o-eq0.ensures c.if-n-eq0.false c.refused.ensures

pub returns : goal.returns
returns c =
    offers_not _ _ _ _ _ _ _ _ _ _ c.objects_number-o.ensures c.if-o-eq0.false c.lower.ensures
    (omega arith) (omega arith) c.clear-2.ensures c.clear-3.ensures
    c.refused-2.ensures
