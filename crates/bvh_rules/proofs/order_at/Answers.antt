-- `bvh_rules::order_at` meets its contract: past its end a part of a table holds nothing. Assumes nothing.
use mathlib.Core.Path.{sym}
use Rattle.bvh_rules.proofs.Lists.{order_here, order_past}
use Rattle.bvh_rules.proofs.order_at.Goals as goal

pub returns-then-i-lt-PLACES : goal.returns-then-i-lt-PLACES
returns-then-i-lt-PLACES c = sym (order_here _ _ c.if-i-lt-PLACES.true)

pub returns : goal.returns
returns c = order_past _ _ c.if-i-lt-PLACES.false
