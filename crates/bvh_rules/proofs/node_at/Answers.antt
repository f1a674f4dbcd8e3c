-- `bvh_rules::node_at` meets its contract: before the last place by the words read, and past it since the part ends
-- there. Assumes nothing.
use mathlib.Core.Path.{sym}
use Rattle.bvh_rules.proofs.Lists.{node_here, node_none}
use Rattle.bvh_rules.proofs.node_at.Goals as goal

pub returns-then-at-lt-NODES_MOST : goal.returns-then-at-lt-NODES_MOST
returns-then-at-lt-NODES_MOST c =
    sym (node_here _ _ _ c.if-at-lt-NODES_MOST.true)

pub returns : goal.returns
returns c = rw c.no_box.ensures (sym (node_none _ _ _ c.if-at-lt-NODES_MOST.false))
