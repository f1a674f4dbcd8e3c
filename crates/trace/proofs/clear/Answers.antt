-- `trace::clear` meets its contract: by `undimmed`, from its tests. Assumes nothing.
use mathlib.Core.Path.{◌≡◌}
use mathlib.Core.Bool.{true, false, false≢true}
use Rattle.trace.proofs.Dimming.{undimmed}
use Rattle.trace.proofs.clear.Goals as goal

never : {A : Type 0} → false ≡ true → A
never e = absurd (false≢true e)

pub returns-then-res-k : goal.returns-then-res-k
returns-then-res-k c = λ e.
    undimmed _ _ _ _ _ c.if-w.true c.if-k.true c.if-m.true c.if-res-k.true (c.reaches.ensures e).1

pub returns-else-res-k : goal.returns-else-res-k
returns-else-res-k c = λ e. never e

pub returns-else-m : goal.returns-else-m
returns-else-m c = λ e. never e

pub returns-else-k : goal.returns-else-k
returns-else-k c = λ e. never e

pub returns-else-w : goal.returns-else-w
returns-else-w c = λ e. never e
