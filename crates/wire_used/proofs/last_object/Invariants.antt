-- What the loop of `wire_used::last_object` keeps.
use Prim.Native.Nat.{ℕ, ◌+◌, ◌<◌, ◌≤◌}
use Rattle.plan.specs.Records.{word_of}
use Rattle.wire_used.proofs.last_object.Given as goal

abbrev pub invariant-loop-i : goal.invariant-loop-i
invariant-loop-i l = ((k : ℕ) → k < l.i → word_of l.ws (27031 + k) ≤ l.m)
