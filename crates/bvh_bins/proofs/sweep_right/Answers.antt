-- `bvh_bins::sweep_right` meets its contract: the splits still to come, tried from what is there. Assumes nothing.
use Rattle.std.proofs.Common.{sym, ap, ◌∙◌, subst, arith, rules}
use Rattle.bvh_range.specs.Inside.Numbers.{Numbers}
use Rattle.bvh_range.proofs.Numbers.{nowhere_numbers, merge_numbers}
use Rattle.bvh_bins.specs.Bins.{take_bin, split_by}
use Rattle.bvh_bins.specs.declared.Sweep.{Sweep}
use Rattle.bvh_bins.proofs.Numbers.{choose_hull}
use Rattle.bvh_bins.proofs.Turns.{sweep_more, sweep_none}
use Rattle.bvh_bins.proofs.sweep_right.Goals as goal

pub loop-i-init : goal.loop-i-init
loop-i-init c =
    (search rules, λ p. rw c.nowhere.ensures, subst Numbers (sym c.nowhere.ensures) nowhere_numbers)

pub loop-i-preserved : goal.loop-i-preserved
unfolding take_bin
loop-i-preserved c =
    let h = c.loop-i.invariant.2 in
    let t = c.take_bin-taken.ensures h in (
      omega arith,
      λ p. rw (c.choose-s.ensures, t, c.box_at.ensures)
          (sym (sweep_more _ _ _ _ _ (omega arith) (omega arith) p) ∙ c.loop-i.invariant.1 p),
      subst Numbers
          (sym (ap (λ (s : Sweep). s.hull) c.choose-s.ensures ∙ choose_hull _ _ _ _ ∙ ap (λ (s : Sweep). s.hull) t))
          (merge_numbers _ _ h),
    )

pub returns : goal.returns
unfolding split_by
returns c = λ p. ap (λ (s : Sweep). s.split) (sym (sweep_none _ _ _ (omega arith)) ∙ c.loop-i.invariant.1 p)
