-- `plan_entry::add_material` meets its contract: by the test of its number. Assumes nothing.
use borrow.Author.Tests.{eq-eqb, ne_eqb}
use Rattle.plan_entry.specs.Entry.{record_number}
use Rattle.plan_entry.proofs.Answers.{enters, taken, refused}
use Rattle.plan_entry.proofs.add_material.Goals as goal

pub returns-then-no-eq0 : goal.returns-then-no-eq0
unfolding record_number
returns-then-no-eq0 c =
    enters {m = c.record_number-no.result}
    (rw (
      ← c.word_in-count.ensures,
      ← c.material_at.ensures,
      ← c.material_number-own.ensures,
    )
    c.record_number-no.ensures)
    (rw (← c.word_in-count.ensures) (taken _ _ c.if-no-eq0.true))
    (rw (eq-eqb _ 0 c.if-no-eq0.true)
    (c.with_material.ensures c.word_in-count.ensures))

pub returns : goal.returns
unfolding record_number
returns c =
    enters {m = c.record_number-no.result}
    (rw (
      ← c.word_in-count.ensures,
      ← c.material_at.ensures,
      ← c.material_number-own.ensures,
    )
    c.record_number-no.ensures)
    (rw (← c.word_in-count.ensures) (refused _ _ c.if-no-eq0.false))
    (rw (ne_eqb _ 0 c.if-no-eq0.false))
