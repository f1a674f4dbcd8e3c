-- `record_test::cuts_number` meets its contract: the number of each place is that of its cutter. Assumes nothing.
use Rattle.std.proofs.Common.{rules, ◌∙◌, ◌+◌}
use Rattle.refusals.proofs.Lowest.{lowest_at}
use Rattle.plan.specs.Records.{cutter_at}
use Rattle.plan.specs.Plan.{cuts_by}
use Rattle.record_test.specs.Numbers.{cutter_number, cuts_number}
use Rattle.record_test.proofs.cuts_number.Goals as goal

pub returns : goal.returns
unfolding cuts_number cuts_by
returns c =
    let a = c.args in
    c.lowest_number.ensures (λ i. cutter_number (cutter_at a.ws.now a.fs.now (a.base + a.place + i))) (λ i r h p. search rules)
    ∙ lowest_at cutter_number (cutter_at a.ws.now a.fs.now) (a.base + a.place) a.n
