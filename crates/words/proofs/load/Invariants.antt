-- What the loop of `words::load` keeps.
use Rattle.std.proofs.Common.{◌≡◌, length, take}
use Rattle.words.specs.Words.{words_of}
use Rattle.words.proofs.load.Given as goal

abbrev pub invariant-loop-i : goal.invariant-loop-i
invariant-loop-i l = (length l.words ≡ length l.initial.words) × (take l.i l.words ≡ words_of l.b l.i)
