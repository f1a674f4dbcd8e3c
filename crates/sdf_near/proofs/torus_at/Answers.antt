-- `sdf_near::torus_at` meets its contract: by `torus_far` where the guess is reached, else by that of `less`. Assumes
-- nothing.
use mathlib.Core.Path.{refl, sym}
use mathlib.Core.Logic.{inr}
use Rattle.sdf_near.proofs.Far.{torus_far}
use Rattle.sdf_near.proofs.torus_at.Goals as goal

pub returns-then-minor : goal.returns-then-minor
returns-then-minor c =
    let a = c.args in
    inr (
      refl,
      torus_far a.g a.y _ a.major a.minor _ a.t c.off_ring-s.ensures
          (c.reaches.ensures c.if-reaches.true) c.if-t-w.true c.if-minor.true,
    )

pub returns : goal.returns
returns c = rw (sym c.quick_root.ensures) c.less.ensures
