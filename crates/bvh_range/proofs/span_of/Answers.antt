-- `bvh_range::span_of` meets its contract: the objects still to come are added to what is there. Assumes nothing.
use mathlib.Core.Path.{sym, subst, ◌∙◌}
use Rattle.bvh_range.specs.Inside.Numbers.{Numbers}
use Rattle.bvh_range.specs.Range.{span_of}
use Rattle.bvh_range.proofs.Numbers.{nowhere_numbers, merge_numbers}
use Rattle.bvh_range.proofs.Members.{span_turn, span_none}
use Rattle.bvh_range.proofs.span_of.Goals as goal

pub loop-o-init : goal.loop-o-init
unfolding span_of
loop-o-init c = (
  rw (c.no_row-centres.ensures, c.no_row-hull.ensures),
  subst Numbers (sym c.no_row-hull.ensures) nowhere_numbers,
  subst Numbers (sym c.no_row-centres.ensures) nowhere_numbers,
)

pub loop-o-preserved : goal.loop-o-preserved
loop-o-preserved c =
    let L = c.loop-o in
    let a = c.args in
    let h = c.join-hull.ensures L.invariant.1 in
    let k = c.join-centres.ensures L.invariant.2 in (
      span_turn _ a.os.now L.o-index _ _ _ _ _ _ _ c.loop-o-test.true
          c.row_at-m.ensures h c.middle.ensures k L.invariant.0,
      subst Numbers (sym h) (merge_numbers _ _ L.invariant.1),
      subst Numbers (sym k) (merge_numbers _ _ L.invariant.2),
    )

pub returns : goal.returns
returns c =
    rw (c.box_in-2.ensures, c.box_in.ensures)
    (sym (span_none _ _ _ _ c.loop-o-test.false) ∙ c.loop-o.invariant.0)
