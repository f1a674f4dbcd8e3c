-- What the loop of `trace::soft_shadow` keeps.
use Prim.Native.Nat.{◌-◌}
use mathlib.Core.Path.{◌≡◌}
use Rattle.bvh_search.specs.Field.{field_by}
use Rattle.trace.specs.Shadow.{cone_march, shadow_of}
use Rattle.trace.proofs.soft_shadow.Given as goal

abbrev pub invariant-loop-made : goal.invariant-loop-made
invariant-loop-made l =
    cone_march (field_by l.tree l.ws l.fs) l.ray.ro l.ray.rd l.ray.tmax l.k (96 - l.made) l.c l.made
    ≡ shadow_of (field_by l.tree l.ws l.fs) l.ray.ro l.ray.rd l.ray.tmin l.ray.tmax l.k
