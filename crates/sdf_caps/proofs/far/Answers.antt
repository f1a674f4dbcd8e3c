-- `sdf_caps::far` meets its contract: by its tests. Assumes nothing.
use mathlib.Core.Path.{◌≡◌}
use mathlib.Core.Bool.{true, false, false≢true}
use Rattle.float_order.proofs.Order.{yes_of}
use Rattle.sdf_caps.proofs.Laws.{above_finite}
use Rattle.sdf_caps.proofs.far.Goals as goal

never : {A : Type 0} → false ≡ true → A
never e = absurd (false≢true e)

pub returns-then-s-2 : goal.returns-then-s-2
returns-then-s-2 c = λ e.
    let h = c.if-s.true in
    (above_finite c.args.s h c.if-s-2.true, yes_of h, yes_of e)

pub returns-else-s-2 : goal.returns-else-s-2
returns-else-s-2 c = λ e. never e

pub returns-else-s : goal.returns-else-s
returns-else-s c = λ e. never e
