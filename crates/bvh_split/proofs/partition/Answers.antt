-- `bvh_split::partition` meets its contract: the steps still to come, taken from what is there. Assumes nothing.
use borrow.Author.Rules.{rules}
use Prim.Native.Nat.{ℕ}
use mathlib.Core.List.{List}
use mathlib.Core.Path.{refl, sym, ap, ◌∙◌}
use native.Mathlib.Nat.{sub-zero, le_refl}
use native.Mathlib.Omega.{arith}
use lib.ListN.{length, get_or}
use Rattle.bvh_boxes.specs.Boxes.{box_at}
use Rattle.bvh_range.specs.Inside.Table.{table_boxes}
use Rattle.bvh_bins.specs.Bins.{bin_of}
use Rattle.bvh_split.specs.Part.{parted}
use Rattle.bvh_split.proofs.Cuts.{length_swapped}
use Rattle.bvh_split.proofs.Placed.{part_none}
use Rattle.bvh_split.proofs.Placed.{swapped_past, part_by}
use Rattle.bvh_split.proofs.partition.Goals as goal

pub loop-i-init : goal.loop-i-init
unfolding parted
loop-i-init c = (search rules, refl, λ j h. refl, λ _. simp sub-zero)

pub overflow_add-mid : goal.overflow_add-mid
overflow_add-mid c =
    let g = c.well_formed in
    let h = c.loop-i-test.true in
    let k = c.loop-i.invariant.0 in
    let e = c.one_below-one.ensures.0 in
    search rules

pub loop-i-preserved : goal.loop-i-preserved
loop-i-preserved c =
    let L = c.loop-i in
    let a = c.args in
    let w = c.swap.ensures in
    let f = c.either_place.ensures in (
      omega (arith, c.one_below-one.ensures.0),
      ap length w ∙ length_swapped _ _ _ ∙ L.invariant.1,
      λ j h. ap (λ (x : List ℕ). get_or x j 0) w ∙ swapped_past L.i _ j L.os (omega arith) (omega (arith, f.0)) ∙
          L.invariant.2 j (omega arith),
      λ n. part_by (table_boxes a.t.now) a.g a.split (length a.os.now) L.i L.mid _ _ _ _ L.os _ _
          (omega (arith, c.loop-i-test.true))
          (c.place_at.ensures (λ l. n L.i (omega (arith, c.loop-i-test.true)) l ∙ ap
          (λ (x : ℕ). bin_of a.g (box_at (table_boxes a.t.now) x)) (sym (L.invariant.2 L.i (le_refl L.i)))))
          c.one_below-one.ensures.1 f.1 (f.2 L.invariant.0) w refl (L.invariant.3 n),
    )

pub shape_of-os : goal.shape_of-os
shape_of-os c = c.loop-i.invariant.1

pub returns : goal.returns
returns c = λ n. part_none _ _ _ _ _ _ _ _ (omega (arith, c.loop-i-test.false)) (c.loop-i.invariant.3 n)
