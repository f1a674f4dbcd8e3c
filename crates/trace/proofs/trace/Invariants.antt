-- What the loop of `trace::trace` keeps.
use Prim.Native.Nat.{◌-◌}
use mathlib.Core.Path.{◌≡◌}
use Rattle.bvh_search.specs.Field.{field_by}
use Rattle.trace.specs.Trace.{march, trace_of}
use Rattle.trace.proofs.trace.Given as goal

abbrev pub invariant-loop-count : goal.invariant-loop-count
invariant-loop-count l =
    march (field_by l.tree l.ws l.fs) l.ray.ro l.ray.rd l.ray.tmax (129 - l.count) l.t (l.count - 1)
    ≡ trace_of (field_by l.tree l.ws l.fs) l.ray.ro l.ray.rd l.ray.tmin l.ray.tmax
