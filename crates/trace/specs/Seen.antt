-- The points that a march evaluates, in order: what its answer rests on, and its count their number.
use Rattle.std.specs.Prelude.{ℕ, zero, suc, cond, List, [], ◌∷◌, Float}
use Rattle.std.specs.Float.Ieee.{lt}
use Rattle.vectors.specs.declared.Vec3.{Vec3}
use Rattle.trace.specs.declared.Hit.{Hit}
use Rattle.trace.specs.declared.Traced.{Traced}
use Rattle.trace.specs.declared.Cone.{Cone}
use Rattle.trace.specs.Trace.{Field, trace_most, point_at, step_at, follow}
use Rattle.trace.specs.Shadow.{shadow_most, pass_at, pass, cone_from}

abbrev pub steps_in : Traced → ℕ
steps_in x = x.count

unfoldable pub march_points : Field → Vec3 → Vec3 → Float → ℕ → Float → List Vec3
march_points field ro rd tmax zero t = []
march_points field ro rd tmax (suc left) t =
    point_at ro rd t
    ∷ follow (λ (h : Hit). []) [] (λ (next : Float). march_points field ro rd tmax left next)
    (step_at field ro rd tmax t)

unfoldable pub trace_points : Field → Vec3 → Vec3 → Float → Float → List Vec3
trace_points field ro rd tmin tmax = march_points field ro rd tmax trace_most tmin

unfoldable pub cone_points : Field → Vec3 → Vec3 → Float → Float → ℕ → Cone → List Vec3
cone_points field ro rd tmax k zero c = []
cone_points field ro rd tmax k (suc left) c =
    cond (lt c.t tmax)
    (point_at ro rd c.t
    ∷ pass [] (λ (next : Cone). cone_points field ro rd tmax k left next) (pass_at field ro rd k c))
    []

unfoldable pub shadow_points : Field → Vec3 → Vec3 → Float → Float → Float → List Vec3
shadow_points field ro rd tmin tmax k = cone_points field ro rd tmax k shadow_most (cone_from tmin)
