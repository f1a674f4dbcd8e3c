-- `plan_entry::add_piece` meets its contract: by the test of its number. Assumes nothing.
use borrow.Author.Tests.{eq-eqb, ne_eqb}
use Rattle.plan_entry.proofs.Answers.{adds_piece, taken, refused}
use Rattle.plan_entry.proofs.add_piece.Goals as goal

pub returns-then-no-eq0 : goal.returns-then-no-eq0
returns-then-no-eq0 c =
    let a = c.args in
    adds_piece a.before a.among a.fs.now a.bytes
    c.judge_solids-s.ensures
    c.piece_number-no.ensures
    c.count_of-count.ensures
    (rw c.arg_word.ensures at c.new_place-place.ensures)
    (taken _ _ c.if-no-eq0.true)
    (rw (eq-eqb _ 0 c.if-no-eq0.true) c.with_piece.ensures)

pub returns : goal.returns
returns c =
    let a = c.args in
    adds_piece a.before a.among a.fs.now a.bytes
    c.judge_solids-s.ensures
    c.piece_number-no.ensures
    c.count_of-count.ensures
    (rw c.arg_word.ensures at c.new_place-place.ensures)
    (refused _ _ c.if-no-eq0.false)
    (rw (ne_eqb _ 0 c.if-no-eq0.false))
