-- `wire::clear` meets its contract: the first bytes are 0, the rest as they were. Assumes nothing.
use mathlib.Core.Path.{◌∙◌, ap}
use lib.Seq.{length-take-le}
use borrow.Author.Tests.{le-leb, lt-leb}
use Rattle.std.proofs.Common.{ℕ, List, ◌++◌, rules, replicate, drop}
use Rattle.wire.specs.Sent.{cleared, cleared_front}
use Rattle.wire.proofs.clear.Goals as goal

pub returns-then-n-b : goal.returns-then-n-b
unfolding cleared cleared_front
returns-then-n-b c =
    let a = c.args in
    let front = length-take-le a.n a.b.now c.if-n-b.true in
    let zeros = c.fill.ensures.after (search rules) ∙ ap (λ (k : ℕ). replicate k 0) front in
    simp (le-leb _ _ c.if-n-b.true) (ap (λ (x : List ℕ). x ++ drop a.n a.b.now) zeros)

pub returns-else-n-b : goal.returns-else-n-b
unfolding cleared cleared_front
returns-else-n-b c = simp (lt-leb _ _ c.if-n-b.false)
