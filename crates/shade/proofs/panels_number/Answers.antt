-- `shade::panels_number` meets its contract: the number of each index is that of its light. Assumes nothing.
use Rattle.std.proofs.Common.{rules, sym, ◌∙◌, ◌+◌}
use Rattle.refusals.proofs.Lowest.{lowest_at}
use Rattle.plan.specs.Records.{light_in}
use Rattle.panel.specs.Panels.{at_light_number, panels_number}
use Rattle.shade.proofs.Lights.{lights_taken}
use Rattle.shade.proofs.panels_number.Goals as goal

pub returns : goal.returns
unfolding panels_number
returns c =
    let a = c.args in
    rw (lights_taken, sym c.panels_in.ensures)
    (c.lowest_number.ensures (λ i. at_light_number a.p (light_in a.fs.now (0 + i))) (λ i r h p. search rules)
    ∙ lowest_at (at_light_number a.p) (light_in a.fs.now) 0 _)
