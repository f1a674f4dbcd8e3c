-- `bemitondry_tree::build` meets its contract: the tree where it is low enough, and else both tables zero. Assumes nothing.
use native.Mathlib.Omega.{arith}
use Rattle.bemitondry_tree.proofs.Raises.{builds, builds_deep, builds_not}
use Rattle.bemitondry_tree.proofs.build.Goals as goal

pub returns-then-n-eq0 : goal.returns-then-n-eq0
returns-then-n-eq0 c =
    builds _ _ _ _ _ _ _ _ _ _ c.objects_number-o.ensures c.if-o-eq0.true c.build-b.ensures.few
    c.unless.ensures c.lower-n.ensures _ _ _ _ (omega arith)
    (omega arith) c.clear.ensures c.clear-2.ensures c.if-n-eq0.true
    c.narrow.ensures c.done.ensures

pub returns-then-o-eq0 : goal.returns-then-o-eq0
returns-then-o-eq0 c =
    builds_deep _ _ _ _ _ _ _ _ _ _ c.objects_number-o.ensures c.if-o-eq0.true c.build-b.ensures.few
    c.unless.ensures c.lower-n.ensures _ _ _ _ _ (omega arith)
    (omega arith) c.clear-then-o-eq0.ensures c.clear-then-o-eq0-2.ensures c.if-n-eq0.false c.refused.ensures

pub returns : goal.returns
returns c =
    builds_not _ _ _ _ _ _ _ _ _ c.objects_number-o.ensures c.if-o-eq0.false c.lower.ensures
    (omega arith) (omega arith) c.clear.ensures c.clear-2.ensures
    c.refused-2.ensures
