-- `bvh_search::gap` meets its contract: by `gap_is`, a return for each case. Assumes nothing.
use Rattle.std.proofs.Common.{sym}
use Rattle.bvh_search.proofs.Gaps.{gap_is}
use Rattle.bvh_search.proofs.gap.Goals as goal

pub returns-then-a-v : goal.returns-then-a-v
returns-then-a-v c = let a = c.args in
    rw (sym (gap_is a.a a.b), sym c.max-v.ensures, c.if-a-v.true)

pub returns-else-a-v : goal.returns-else-a-v
returns-else-a-v c = let a = c.args in
    rw (sym (gap_is a.a a.b), sym c.max-v.ensures, c.if-a-v.false)
