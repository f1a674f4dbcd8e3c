-- `sdf_caps::cone_from` meets its contract: by the square, or by the distance itself. Assumes nothing.
use borrow.Author.Rules.{rules}
use mathlib.Core.Path.{refl}
use mathlib.Core.Logic.{inl, inr}
use Rattle.sdf_caps.proofs.Cones.{by_square}
use Rattle.sdf_caps.proofs.cone_from.Goals as goal

pub returns-then-t-w : goal.returns-then-t-w
returns-then-t-w c = λ low.
    inr (
      refl,
      by_square _ _ _ _ _ _ _ c.min-d.result c.cone_sign-s.result _ _
          (rw (c.min-d.ensures, c.cone_foot-f.ensures, c.max-cax.ensures, c.cone_end.ensures))
          (rw (c.cone_sign-s.ensures, c.cone_foot-f.ensures)) low (c.reaches.ensures c.if-reaches.true)
          (search rules) c.if-t-w.true,
    )

pub returns : goal.returns
returns c = λ low.
    inl (rw (c.quick_root.ensures, c.cone_sign-s.ensures, c.min-d.ensures)
    (rw (c.cone_foot-f.ensures, c.max-cax.ensures, c.cone_end.ensures)))
