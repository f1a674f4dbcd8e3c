-- `Corners::ring` meets its contract: what is left of the ring, from the corner and the sum in hand, is the whole ring.
-- Assumes nothing.
use native.Mathlib.Omega.{arith}
use Rattle.std.proofs.Common.{sym}
use Rattle.ltc.proofs.Places.{no_ring, ring_start, ring_turn, ring_end}
use Rattle.ltc.proofs.Corners.ring.Goals as goal

pub returns-then-self-lt3 : goal.returns-then-self-lt3
returns-then-self-lt3 c = rw (sym c.self.view_is) (sym (no_ring _ _ c.if-self-lt3.true))

pub loop-v-init : goal.loop-v-init
loop-v-init c =
    rw (c.on_sphere-first.ensures, sym c.self.view_is)
    (ring_start _ _ _ c.if-self-lt3.false (omega arith))

pub loop-v-preserved : goal.loop-v-preserved
loop-v-preserved c =
    let l = c.loop-v in
    ring_turn _ _ _ _ _ _ _ _ c.loop-v-test.true c.on_sphere-b.ensures c.edge_sum-sum.ensures l.invariant

pub returns : goal.returns
returns c = ring_end _ _ _ _ _ c.loop-v.invariant c.edge_sum.ensures c.loop-v-test.false
