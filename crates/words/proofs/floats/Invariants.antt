-- What the loop of `words::floats` keeps.
use Rattle.std.proofs.Common.{◌≡◌, length, take}
use Rattle.words.specs.Words.{floats_of}
use Rattle.words.proofs.floats.Given as goal

abbrev pub invariant-loop-i : goal.invariant-loop-i
invariant-loop-i l = (length l.fs ≡ length l.initial.fs) × (take l.i l.fs ≡ floats_of l.ws l.i)
