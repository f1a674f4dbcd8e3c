-- `sdf_near::off_ring` meets its contract: by `ring_out`, `ring_in` and `ring_none`. Assumes nothing.
use Rattle.sdf_near.proofs.Far.{ring_out, ring_in, ring_none}
use Rattle.sdf_near.proofs.off_ring.Goals as goal

pub returns-then-k : goal.returns-then-k
returns-then-k c =
    let a = c.args in
    ring_out a.g _ a.major (c.reaches.ensures c.if-reaches.true) c.if-k.true

pub returns-then-k-2 : goal.returns-then-k-2
returns-then-k-2 c =
    let a = c.args in
    ring_in a.g _ a.major (c.stays.ensures c.if-stays.true) c.if-k-2.true

pub returns : goal.returns
returns c = let a = c.args in ring_none a.g a.major
