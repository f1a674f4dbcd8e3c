-- What the loop of `plan_write::record_words` keeps.
use Rattle.std.proofs.Common.{◌≡◌, length, take}
use Rattle.words.specs.Lists.{list_from}
use Rattle.plan_write.specs.Written.{first_word}
use Rattle.plan_write.proofs.record_words.Given as goal

abbrev pub invariant-loop-k : goal.invariant-loop-k
invariant-loop-k l = (length l.rec ≡ 16) × (take l.k l.rec ≡ list_from (first_word l.ws l.n) 0 l.k)
