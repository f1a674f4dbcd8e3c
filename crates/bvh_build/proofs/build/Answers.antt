-- `bvh_build::build` meets its contract: no objects, too many, or the tree of all. Assumes nothing.
use Rattle.std.proofs.Common.{pos_of_ne-zero, arith}
use Rattle.bvh_build.proofs.Whole.{objects_count, none_built, unbuilt, few_built}
use Rattle.bvh_build.proofs.build.Goals as goal

pub returns-then-n-eq0 : goal.returns-then-n-eq0
returns-then-n-eq0 c = none_built _ _ _ _ _ c.object_count-n.ensures c.if-n-eq0.true

pub returns-then-n-gt-PLACES : goal.returns-then-n-gt-PLACES
returns-then-n-gt-PLACES c = unbuilt _ _ _ _ _ c.object_count-n.ensures c.if-n-gt-PLACES.true

pub returns : goal.returns
returns c =
    let n = c.object_count-n.ensures in
    few_built _ _ _ _ _ _ _ _ n (omega (arith, c.if-n-gt-PLACES.false))
    (c.build_front.ensures (objects_count _ _ _ n) (omega arith) (pos_of_ne-zero c.if-n-eq0.false)
    (omega (arith, c.if-n-gt-PLACES.false)))
