-- `sdf_near::less` meets its contract: by `root_far` where the guess is reached, else by definition. Assumes nothing.
use mathlib.Core.Path.{refl}
use mathlib.Core.Logic.{inl, inr}
use Rattle.sdf_near.proofs.Far.{root_far}
use Rattle.sdf_near.proofs.less.Goals as goal

pub returns-then-t-w : goal.returns-then-t-w
returns-then-t-w c =
    let a = c.args in
    inr (refl, root_far a.q _ a.r a.t (c.reaches.ensures c.if-reaches.true) c.if-t-w.true)

pub returns : goal.returns
returns c = inl (rw c.quick_root.ensures)
