-- `sdf_caps::cylinder_at` meets its contract: by a bound of the square, by the square, or by its root. Assumes nothing.
use mathlib.Core.Path.{refl, ap}
use mathlib.Core.Logic.{inl, inr}
use lib.Ieee.{Float}
use Rattle.sdf_caps.specs.Inside.Caps.{rooted}
use Rattle.sdf_caps.proofs.Laws.{by_bound, by_square, by_root, square_is}
use Rattle.sdf_caps.proofs.cylinder_at.Goals as goal

pub returns-then-far : goal.returns-then-far
returns-then-far c =
    inr (
      refl,
      by_bound _ _ _ _ _ _ _ _ c.beyond-by.ensures c.over-z.ensures c.above_zero-w.ensures
          (c.far.ensures c.if-far.true) (c.reaches.ensures c.if-reaches.true),
    )

pub returns-then-far-2 : goal.returns-then-far-2
returns-then-far-2 c =
    let is = square_is _ _ _ _ _ _ _ c.square-d.ensures c.quick_root.ensures c.beyond-by.ensures in
    inr (
      refl,
      by_square _ _ _ _ _ _ _ is c.above_zero-w.ensures (c.far-then-reaches-2.ensures c.if-far-2.true)
          (c.reaches-then-d.ensures c.if-reaches-2.true),
    )

pub returns-then-d : goal.returns-then-d
returns-then-d c =
    let is = square_is _ _ _ _ _ _ _ c.square-d.ensures c.quick_root.ensures c.beyond-by.ensures in
    inl (by_root _ _ _ _ _ _ is c.if-d.true c.quick_root-then-d.ensures)

pub returns : goal.returns
returns c =
    let is = square_is _ _ _ _ _ _ _ c.square-d.ensures c.quick_root.ensures c.beyond-by.ensures in
    inl (rw (c.quick_root-2.ensures, c.size.ensures, c.signum.ensures)
    (ap (λ (d : Float). rooted d c.args.baba) is))
