-- `viewer::ask` meets its contract: what is sent is the question's reply. Assumes nothing.
use Rattle.viewer.proofs.Lent.{ask_sent, zero_words, zero_floats}
use Rattle.viewer.proofs.ask.Goals as goal

pub returns : goal.returns
returns g c =
    let q = g.Q.Question in
    let loaded = c.load_ask.ensures (zero_words 27296) (zero_floats 27296) in
    let loaded = rw c.NEED.ensures at loaded in
    let before = rw c.NEED-2.ensures at c.ask_before-n.ensures in
    ask_sent q.reply g.met.Q.Question.reads q.NEED _ _ _ _ _ _ _ _ _ _ _ _ loaded before c.ask.ensures c.send.ensures
