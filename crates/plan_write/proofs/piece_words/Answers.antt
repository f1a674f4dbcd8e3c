-- `plan_write::piece_words` meets its contract: word by word. Assumes nothing.
use Rattle.plan_write.proofs.piece_words.Goals as goal

pub returns : goal.returns
returns c =
    rw (c.used_word-8.ensures, c.used_word-7.ensures, c.used_word-6.ensures, c.used_word-5.ensures)
    (rw (c.used_word-4.ensures, c.used_word-3.ensures, c.used_word-2.ensures, c.used_word.ensures)
    (rw (c.arg_word-3.ensures, c.arg_word-2.ensures, c.arg_word.ensures, c.arg_word-k.ensures)))
