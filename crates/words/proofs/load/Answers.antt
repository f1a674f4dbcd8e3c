-- `words::load` meets its contract: the words passed are those of the bytes. Assumes nothing.
use Rattle.std.proofs.Common.{rules, refl, sym, ◌≡◌, ◌<◌, length, arith}
use Rattle.words.specs.Words.{word_at}
use Rattle.words.proofs.Runs.{fill_none, fill_more, with_zeros}
use Rattle.words.proofs.load.Goals as goal

pub loop-i-init : goal.loop-i-init
loop-i-init c = (refl, fill_none (word_at c.args.b.now) c.args.words.now)

pub loop-i-preserved : goal.loop-i-preserved
loop-i-preserved c =
    let l = c.loop-i in
    let t : l.i < length l.words = omega arith in
    (search rules, fill_more (word_at _) l.words l.i _ t c.word.ensures l.invariant.1)

pub returns : goal.returns
returns c =
    let l = c.loop-i in
    let m = c.min-m.result in
    let n : length l.words ≡ length c.args.words.now = l.invariant.0 in
    let e : l.i ≡ m = omega arith in
    rw (sym n)
    (with_zeros c.args.b.now l.words c.fill.new.self m (rw n c.min-m.ensures) (rw e at l.invariant.1) (c.fill.ensures.after (λ y e. e)))
