-- `bemitondry_emitter::lights_number` meets its contract: the number of each index is that of its record. Assumes
-- nothing.
use Rattle.std.proofs.Common.{rules, ◌∙◌, ◌+◌}
use Rattle.refusals.proofs.Lowest.{lowest_at}
use Rattle.record_test.specs.Numbers.{light_number}
use Rattle.bemitondry_emitter.specs.Emitter.{lent_light}
use Rattle.bemitondry_emitter.proofs.lights_number.Goals as goal

pub returns : goal.returns
returns c =
    let a = c.args in
    c.lowest_number.ensures (λ i. light_number (lent_light a.b.now (0 + i))) (λ i r h p. search rules)
    ∙ lowest_at light_number (lent_light a.b.now) 0 a.n
