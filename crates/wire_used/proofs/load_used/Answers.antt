-- `wire_used::load_used` meets its contract: by what each part of the table holds. Assumes nothing.
use native.Mathlib.Omega.{arith}
use Rattle.wire_used.proofs.Loads.{used_law}
use Rattle.wire_used.proofs.load_used.Goals as goal

pub returns-then-ends-le-PLACES : goal.returns-then-ends-le-PLACES
returns-then-ends-le-PLACES c =
    let last = c.nodes_end.ensures in
    let low = c.if-u-le-PLACES.true in
    let most = c.begins-v.ensures.0 in
    λ t b o few.
    let r = used_law _ _ t _ _ _ _ _ _ _ _ _ _ _ _ _ _ b o few (c.load_lists.ensures t b.plan_is b.filled o)
    c.word_in-planes.ensures c.ends-u.ensures low c.ends.ensures c.if-ends-le-PLACES.true last.0 last.2
    (c.put.ensures last.1 (omega (arith, last.0))) c.begins-v.ensures.1 (c.load_cutters.ensures low most) in
    (λ _. r.0, r.1)
