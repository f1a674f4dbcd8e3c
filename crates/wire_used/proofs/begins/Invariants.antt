-- What the loop of `wire_used::begins` keeps.
use Prim.Native.Nat.{ℕ, ◌+◌, ◌<◌, ◌≤◌}
use Rattle.wire_used.specs.Inside.Used.{Begins}
use Rattle.wire_used.proofs.begins.Given as goal

abbrev pub invariant-loop-j : goal.invariant-loop-j
invariant-loop-j l = (l.e ≤ 1024) × ((k : ℕ) → k < l.j → Begins l.ws l.e (65 + k))
