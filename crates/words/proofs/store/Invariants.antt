-- What the loop of `words::store` keeps.
use Rattle.std.proofs.Common.{◌≡◌, drop}
use Rattle.words.specs.Words.{put_words, with_words}
use Rattle.words.proofs.store.Given as goal

abbrev pub invariant-loop-i : goal.invariant-loop-i
invariant-loop-i l = put_words l.b l.i (drop l.i l.words) ≡ with_words l.initial.b l.words
