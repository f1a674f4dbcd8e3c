-- `words::floats` meets its contract: the floats passed are those of the words. Assumes nothing.
use Rattle.std.proofs.Common.{rules, refl, ◌<◌, length}
use Rattle.words.specs.Words.{float_at}
use Rattle.words.proofs.Runs.{fill_none, fill_more}
use Rattle.words.proofs.floats.Goals as goal

pub loop-i-init : goal.loop-i-init
loop-i-init c = (refl, fill_none (float_at _) c.args.fs.now)

pub loop-i-preserved : goal.loop-i-preserved
loop-i-preserved c =
    let l = c.loop-i in
    let t : l.i < length l.fs = search rules in
    (search rules, fill_more (float_at _) l.fs l.i _ t c.float_at.ensures l.invariant.1)
