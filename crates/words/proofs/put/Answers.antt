-- `words::put` meets its contract: the four bytes that std makes of the word are those that the definition puts.
-- Assumes nothing.
use Rattle.std.proofs.Common.{◌≡◌, ◌/◌, ◌%◌, arith}
use borrow.Author.Tests.{lt-ltb, le-ltb}
use Rattle.words.specs.Words.{put_word}
use Rattle.words.proofs.put.Goals as goal

pub returns-then-i-b : goal.returns-then-i-b
unfolding put_word
returns-then-i-b c =
    let top : c.args.w / 16777216 % 256 ≡ c.args.w / 16777216 = omega (arith, c.ranges.w.fits) in
    rw (c.to_le_bytes.ensures, lt-ltb _ _ c.if-i-b.true, top)

pub returns-else-i-b : goal.returns-else-i-b
unfolding put_word
returns-else-i-b c = rw (le-ltb _ _ c.if-i-b.false)
