-- `root::scaled` meets its contract. Assumes nothing.
use lib.Bits.{and_mask}
use Rattle.std.proofs.Common.{sym, ◌∙◌}
use Rattle.root.proofs.Core.{start_even, start_odd}
use Rattle.root.proofs.scaled.Goals as goal

pub returns-then-exponent-eq0 : goal.returns-then-exponent-eq0
returns-then-exponent-eq0 c =
    let e = c.exponent in
    let m = c.digits-m in
    start_even c.args.b m.result e.result m.ensures e.ensures
    (sym (and_mask e.result 1) ∙ c.if-exponent-eq0.true)

pub returns-else-exponent-eq0 : goal.returns-else-exponent-eq0
returns-else-exponent-eq0 c =
    let e = c.exponent in
    let m = c.digits-m in
    start_odd c.args.b m.result e.result m.ensures e.ensures
    (λ h. c.if-exponent-eq0.false (and_mask e.result 1 ∙ h))
