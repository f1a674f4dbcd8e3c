-- `root::rounded` meets its contract: one more where more remains than twice the digits. Assumes nothing.
use Rattle.root.proofs.Places.{rounds_down, rounds_up}
use Rattle.root.proofs.rounded.Goals as goal

pub returns-then-r : goal.returns-then-r
returns-then-r c =
    let s = c.steps-r in
    λ p h. rounds_up s.result.left s.result.twice c.args.m (s.ensures h)
    c.if-r.true

pub returns-else-r : goal.returns-else-r
returns-else-r c =
    let s = c.steps-r in
    λ p h. rounds_down s.result.left s.result.twice c.args.m p
    (s.ensures h) c.if-r.false
