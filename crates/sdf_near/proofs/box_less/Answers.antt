-- `sdf_near::box_less` meets its contract: by `box_far` where the guess is reached, else by definition. Assumes
-- nothing.
use mathlib.Core.Path.{sym, subst, refl}
use mathlib.Core.Logic.{inl, inr}
use lib.Dec.{T}
use Rattle.sdf_near.proofs.Far.{box_far}
use Rattle.sdf_near.proofs.box_less.Goals as goal

pub returns-then-t-w : goal.returns-then-t-w
returns-then-t-w c =
    let a = c.args in
    inr (
      refl,
      box_far a.q _ a.n _ a.r a.t (subst T (sym c.well_formed.0.1) tt) c.min-m.ensures
          (c.reaches.ensures c.if-reaches.true) c.if-t-w.true,
    )

pub returns : goal.returns
returns c = inl (rw (c.quick_root.ensures, c.min-m.ensures))
