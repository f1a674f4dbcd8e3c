-- `bvh_bins::sweep_left` meets its contract: what was passed is summed up. Assumes nothing.
use Rattle.std.proofs.Common.{sym, subst, arith, rules}
use Rattle.words.specs.Lists.{list_from}
use Rattle.words.proofs.Runs.{fill_more, fill_all}
use Rattle.bvh_range.specs.Inside.Numbers.{Numbers}
use Rattle.bvh_bins.specs.Bins.{left_box, left_count}
use Rattle.bvh_bins.specs.Inside.Sums.{binned}
use Rattle.bvh_bins.proofs.Numbers.{left_numbers}
use Rattle.bvh_bins.proofs.Turns.{box_turn, count_turn, left_turn}
use Rattle.bvh_bins.proofs.sweep_left.Goals as goal

pub loop-i-init : goal.loop-i-init
unfolding left_box left_count list_from
loop-i-init c = search rules

pub loop-i-preserved : goal.loop-i-preserved
loop-i-preserved c =
    let L = c.loop-i in
    let a = c.args in
    let σ = binned a.b.now a.n.now in
    let w = c.wider-hull.ensures (subst Numbers (sym L.invariant.1) (left_numbers σ L.i)) in
    let h = box_turn σ L.i _ _ _ w
    c.box_at.ensures L.invariant.1 in
    let n = count_turn σ L.i _ _ c.plus-count.ensures L.invariant.2 in (
      search rules,
      h,
      n,
      fill_more _ L.lefts L.i _ (omega arith) (left_turn σ L.i _ _ _ c.area.ensures h n) L.invariant.3,
    )

pub returns : goal.returns
returns c = let L = c.loop-i.invariant in
    fill_all _ _ _ 12 L.0 (omega arith) (omega arith) L.3
