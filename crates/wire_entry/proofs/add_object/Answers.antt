-- `wire_entry::add_object` meets its contract: what the entry leaves is stored and sent, and where it entered the
-- tree's tables become 0. Assumes nothing.
use Rattle.wire_entry.proofs.Leaves.{cleared_then, cleared_else, number_sent}
use Rattle.wire_entry.proofs.add_object.Goals as goal

pub returns-then-number-eq0 : goal.returns-then-number-eq0
returns-then-number-eq0 c =
    let s = rw c.tree_tables_before-before.ensures at c.enter-number.ensures in
    let k = number_sent _ _ _ _ _ _ _ _ s in
    record {
      piece = s;
      nodes_is = cleared_then _ _ _ _ _ k c.if-number-eq0.true c.clear.ensures;
      order_is = cleared_then _ _ _ _ _ k c.if-number-eq0.true c.clear-then-number-eq0.ensures;
    }

pub returns-else-number-eq0 : goal.returns-else-number-eq0
returns-else-number-eq0 c =
    let s = rw c.tree_tables_before-before.ensures at c.enter-number.ensures in
    let k = number_sent _ _ _ _ _ _ _ _ s in
    record {
      piece = s;
      nodes_is = cleared_else _ _ _ _ k c.if-number-eq0.false;
      order_is = cleared_else _ _ _ _ k c.if-number-eq0.false;
    }
