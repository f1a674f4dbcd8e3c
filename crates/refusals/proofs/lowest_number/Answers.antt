-- `refusals::lowest_number` meets its contract: the lowest so far is that of the numbers passed. Assumes nothing.
use Rattle.std.proofs.Common.{ℕ, zero-add}
use Rattle.refusals.proofs.Lowest.{lowest_start, lowest_more}
use Rattle.refusals.proofs.lowest_number.Goals as goal

pub loop-i-init : goal.loop-i-init
loop-i-init g c own each = lowest_start own (λ (i : ℕ). i) 0

pub loop-i-preserved : goal.loop-i-preserved
loop-i-preserved g c own each =
    let l = c.loop-i in
    rw (lowest_more, zero-add, c.lower-least.ensures, l.invariant own each, each l.i c.number.result c.loop-i-test.true c.number.ensures)
