-- `bvh_bins::fill_bins` meets its contract: the objects still to come are dropped into what is there. Assumes nothing.
use Rattle.std.proofs.Common.{length, sym, ap, ◌∙◌, arith, length-set}
use Rattle.bvh_range.specs.Inside.Table.{table_boxes}
use Rattle.bvh_bins.specs.Bins.{bin_of}
use Rattle.bvh_bins.proofs.Numbers.{all_turn}
use Rattle.bvh_bins.proofs.Turns.{bins_turn, bins_none}
use Rattle.bvh_bins.proofs.Placed.{bin_few, noted_turn}
use Rattle.bvh_bins.proofs.fill_bins.Goals as goal

pub loop-i-preserved : goal.loop-i-preserved
loop-i-preserved c =
    let L = c.loop-i in
    let a = c.args in
    let d = c.drop_in.ensures in
    let w = c.note.ensures in
    let e = c.bin_of-k.ensures ∙ ap (bin_of a.g) c.box_in.ensures in (
      λ h.
          let few = bin_few _ _ _ e in
          let s = d.0 ((L.invariant.0 h).1 _ few) in (
            bins_turn _ a.os.now L.i a.g L.b _ L.n _ _ _ _ c.loop-i-test.true
                c.row_at-m.ensures e s d.1 (L.invariant.0 h).0,
            all_turn (table_boxes L.b) _ _ _ few s (L.invariant.0 h).1,
          ),
      ap length w ∙ length-set L.places L.i _ ∙ L.invariant.1,
      noted_turn (table_boxes a.t.now) a.g a.os.now L.places _ L.i _ L.invariant.1 w
          (e ∙ ap (bin_of a.g) c.row_at-m.ensures) L.invariant.2,
    )

pub returns : goal.returns
returns c =
    let L = c.loop-i.invariant in
    let e = c.loop-i-test.false in
    (λ h. sym (bins_none _ _ _ _ _ e) ∙ (L.0 h).0, λ j h l. L.2 j (omega arith) l)
