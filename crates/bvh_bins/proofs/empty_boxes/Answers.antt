-- `bvh_bins::empty_boxes` meets its contract: the boxes passed are empty. Assumes nothing.
use Rattle.std.proofs.Common.{ℕ, ◌/◌, length, refl, ap, ◌∙◌, arith}
use Rattle.bvh_bins.proofs.Turns.{length_turn, empty_turn, empty_all}
use Rattle.bvh_bins.proofs.empty_boxes.Goals as goal

pub loop-k-init : goal.loop-k-init
loop-k-init c = (refl, refl)

pub loop-k-preserved : goal.loop-k-preserved
loop-k-preserved c = let L = c.loop-k in
    let p = c.put_row.ensures in
    let h = c.loop-k-test.true in (
      length_turn L.t _ L.k _ p ∙ L.invariant.0,
      empty_turn L.t _ L.k _ p c.no_row.ensures (omega arith) L.invariant.1,
    )

pub returns : goal.returns
returns c = let L = c.loop-k in
    let t = c.args.t.now in
    empty_all L.t L.k (length t / 8) (ap (λ (n : ℕ). n / 8) L.invariant.0) (omega arith) (omega arith)
    L.invariant.1
