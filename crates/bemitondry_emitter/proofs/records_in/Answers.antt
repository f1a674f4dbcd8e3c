-- `bemitondry_emitter::records_in` meets its contract: whole records, at most sixteen, are so many. Assumes nothing.
use mathlib.Core.Path.{sym, ◌∙◌}
use Rattle.bemitondry_emitter.specs.Emitter.{records_in}
use Rattle.bemitondry_emitter.proofs.Records.{records_fit}
use Rattle.bemitondry_emitter.proofs.records_in.Goals as goal

pub overflow_cast-result : goal.overflow_cast-result
overflow_cast-result c = records_fit _ (sym c.records_ok.ensures ∙ c.if-records_ok.true)

pub returns-then-records_ok : goal.returns-then-records_ok
unfolding records_in
returns-then-records_ok c = rw (sym c.records_ok.ensures, c.if-records_ok.true)

pub returns-else-records_ok : goal.returns-else-records_ok
unfolding records_in
returns-else-records_ok c = rw (sym c.records_ok.ensures, c.if-records_ok.false)
