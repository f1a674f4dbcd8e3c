-- `plan_write::record_words` meets its contract: word by word. Assumes nothing.
use Rattle.std.proofs.Common.{rules, refl, ℕ, ◌<◌, length, replicate, arith}
use Rattle.words.proofs.Runs.{fill_none, fill_more, fill_all}
use Rattle.plan_write.specs.Written.{first_word}
use Rattle.plan_write.proofs.record_words.Goals as goal

pub loop-k-init : goal.loop-k-init
loop-k-init c = (refl, fill_none (first_word c.args.ws.now c.args.n) (replicate {A = ℕ} 16 0))

pub loop-k-preserved : goal.loop-k-preserved
loop-k-preserved c =
    let l = c.loop-k in
    let t : l.k < length l.rec = omega arith in
    (search rules, fill_more (first_word _ _) l.rec l.k _ t c.first_word.ensures l.invariant.1)

pub returns : goal.returns
returns c = let l = c.loop-k in fill_all (first_word _ _) l.rec l.k 16 l.invariant.0 (omega arith) (omega arith) l.invariant.1
