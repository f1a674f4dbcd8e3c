-- What the loop of `wire_used::floats` keeps.
use Rattle.wire_used.specs.Inside.Used.{Seen}
use Rattle.wire_used.proofs.floats.Given as goal

abbrev pub invariant-loop-i : goal.invariant-loop-i
invariant-loop-i l = Seen l.ws l.initial.fs l.fs l.from l.i
