-- `plan_test::lights_number` meets its contract: the number of each index is that of its light. Assumes nothing.
use Rattle.std.proofs.Common.{rules, ◌∙◌, ◌+◌}
use Rattle.refusals.proofs.Lowest.{lowest_at}
use Rattle.plan.specs.Records.{light_in}
use Rattle.record_test.specs.Numbers.{light_number}
use Rattle.plan_test.proofs.lights_number.Goals as goal

pub returns : goal.returns
returns c =
    let a = c.args in
    c.lowest_number.ensures (λ i. light_number (light_in a.fs.now (0 + i))) (λ i r h p. search rules)
    ∙ lowest_at light_number (light_in a.fs.now) 0 a.n
