-- `plan_write::cutter_words` meets its contract: word by word. Assumes nothing.
use Rattle.plan_write.proofs.cutter_words.Goals as goal

pub returns : goal.returns
returns c =
    rw (c.used_word-8.ensures, c.used_word-7.ensures, c.used_word-6.ensures, c.used_word-5.ensures)
    (rw (c.used_word-4.ensures, c.used_word-3.ensures, c.used_word-2.ensures, c.used_word.ensures)
    (rw c.word_in-k.ensures))
