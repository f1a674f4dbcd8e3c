-- `sdf_caps::sure` meets its contract: by its tests. Assumes nothing.
use mathlib.Core.Path.{◌≡◌, sym, ◌∙◌}
use mathlib.Core.Bool.{true, false, false≢true}
use Rattle.float_order.proofs.Order.{yes_of, number_eq}
use Rattle.sdf_caps.proofs.Laws.{above_finite}
use Rattle.sdf_caps.proofs.sure.Goals as goal

never : {A : Type 0} → false ≡ true → A
never e = absurd (false≢true e)

pub returns-then-baba-2 : goal.returns-then-baba-2
returns-then-baba-2 c = λ e.
    let h = c.if-baba.true in
    let a = c.args in (
      above_finite a.baba h c.if-baba-2.true,
      yes_of h,
      yes_of (sym (number_eq a.cay) ∙ c.if-cay.true),
      yes_of e,
    )

pub returns-else-baba-2 : goal.returns-else-baba-2
returns-else-baba-2 c = λ e. never e

pub returns-else-baba : goal.returns-else-baba
returns-else-baba c = λ e. never e

pub returns-else-cay : goal.returns-else-cay
returns-else-cay c = λ e. never e
