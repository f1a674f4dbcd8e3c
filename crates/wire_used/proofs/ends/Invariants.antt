-- What the loop of `wire_used::ends` keeps.
use Prim.Native.Nat.{ℕ, ◌+◌, ◌<◌}
use Rattle.wire_used.specs.Inside.Used.{EndsBy}
use Rattle.wire_used.proofs.ends.Given as goal

abbrev pub invariant-loop-j : goal.invariant-loop-j
invariant-loop-j l = ((k : ℕ) → k < l.j → EndsBy l.ws l.e (l.first + k))
