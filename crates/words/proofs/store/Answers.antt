-- `words::store` meets its contract: what is left to put, put into the bytes so far, is the whole. Assumes nothing.
use Rattle.std.proofs.Common.{◌∙◌, sym, arith}
use Rattle.words.proofs.Runs.{puts_step}
use Rattle.words.proofs.Laws.{puts_out}
use Rattle.words.proofs.store.Goals as goal

pub loop-i-preserved : goal.loop-i-preserved
loop-i-preserved c = let l = c.loop-i in rw c.put.ensures (rw (puts_step l.b c.args.words.now l.i (omega arith)) at l.invariant)

pub returns : goal.returns
returns c = let l = c.loop-i in sym (puts_out l.b c.args.words.now l.i (omega arith)) ∙ l.invariant
