-- `bvh_build::put_node` meets its contract: nine stores are one laying, and past the last node nothing changes. Assumes
-- nothing.
use Rattle.std.proofs.Common.{sym, arith}
use Rattle.bvh_build.proofs.Turns.{node_put}
use Rattle.bvh_build.proofs.Laid.{laid_past}
use Rattle.bvh_build.proofs.put_node.Goals as goal

pub returns-then-at-lt-NODES_MOST : goal.returns-then-at-lt-NODES_MOST
returns-then-at-lt-NODES_MOST c =
    node_put _ _ _ _ _ _ _ _ _ _ _ _ c.bits.ensures c.bits-then-at-lt-NODES_MOST.ensures c.bits-then-at-lt-NODES_MOST-2.ensures
    c.bits-then-at-lt-NODES_MOST-3.ensures c.bits-then-at-lt-NODES_MOST-4.ensures
    c.bits-then-at-lt-NODES_MOST-5.ensures

pub returns : goal.returns
returns c = sym (laid_past _ _ _ (omega arith))
