-- `plan_test::pieces_cuts` meets its contract: the number of each index is that of its piece. Assumes nothing.
use Rattle.std.proofs.Common.{rules, ◌∙◌, ◌+◌}
use Rattle.refusals.proofs.Lowest.{lowest_at}
use Rattle.plan.specs.Plan.{piece_at, pieces_from}
use Rattle.record_test.specs.Numbers.{piece_cuts}
use Rattle.plan_test.proofs.pieces_cuts.Goals as goal

pub returns : goal.returns
unfolding pieces_from
returns c =
    let a = c.args in
    c.lowest_number.ensures (λ i. piece_cuts (piece_at a.ws.now a.fs.now (a.r + i))) (λ i r h p. search rules)
    ∙ lowest_at piece_cuts (piece_at a.ws.now a.fs.now) a.r a.n
