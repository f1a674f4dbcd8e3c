-- `sdf_caps::cone_at` meets its contract: by a bound of the square, or by what comes after it. Assumes nothing.
use mathlib.Core.Path.{refl, sym}
use mathlib.Core.Logic.{inr}
use Rattle.sdf_caps.proofs.Cones.{by_bounds}
use Rattle.sdf_caps.proofs.cone_at.Goals as goal

pub returns-then-sure : goal.returns-then-sure
returns-then-sure c =
    rw (sym c.size-cay.ensures) (inr (
      refl,
      by_bounds _ _ _ _ _ _ _ _ _ _ _ c.ends-e.ensures (c.sides-z.ensures refl)
          c.above_zero-w.ensures (c.sure.ensures c.if-sure.true)
          (c.reaches.ensures c.if-reaches.true),
    ))

pub returns : goal.returns
returns c =
    rw (sym c.size-cay.ensures, sym c.quick_root.ensures)
    (c.cone_from.ensures c.above_zero-w.ensures)
