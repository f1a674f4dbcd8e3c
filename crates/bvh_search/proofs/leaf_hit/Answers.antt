-- `bvh_search::leaf_hit` meets its contract: the hit is the best of the objects passed. Assumes nothing.
use Rattle.std.proofs.Common.{◌≡◌, arith}
use Rattle.bvh_rules.specs.Nodes.{order_of}
use Rattle.bvh_search.proofs.Leaves.{hit_none, hit_more}
use Rattle.bvh_search.proofs.leaf_hit.Goals as goal

pub loop-j-init : goal.loop-j-init
loop-j-init c = let a = c.args in hit_none a.ws.now a.fs.now (order_of a.ws.now) a.p a.s a.best

pub loop-j-preserved : goal.loop-j-preserved
loop-j-preserved c = rw (hit_more, c.nearer_in-hit.ensures) (rw c.loop-j.invariant)

pub returns : goal.returns
returns c = let e : c.loop-j.j ≡ c.args.c = omega arith in cc
