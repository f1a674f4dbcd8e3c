-- "`trace`: at most 128 evaluations, hit when the distance is below 1e-4 times max(t, 1). The count is evaluations
-- made." Over any field, a function from points to nearest hits.
use Rattle.std.specs.Prelude.{ℕ, zero, suc, cond, Some, None, Float}
use Rattle.std.specs.Float.Ieee.{lt}
use Rattle.scalar.specs.F32.{◌⊕◌, ◌⊗◌, f1, f1e_4}
use Rattle.scalar.specs.Extremes.{fmax}
use Rattle.vectors.specs.declared.Vec3.{Vec3}
use Rattle.vectors.specs.Vec.{vadd, vscale}
use Rattle.plan.specs.declared.DistHit.{DistHit}
use Rattle.trace.specs.declared.Hit.{Hit}
use Rattle.trace.specs.declared.Step.{Step}
use Rattle.trace.specs.declared.Step.TheVariants.{Found, Past, On}
use Rattle.trace.specs.declared.Traced.{Traced}

abbrev pub Field : Type 0
Field = Vec3 → DistHit

abbrev pub trace_most : ℕ
trace_most = 128

unfoldable pub eps_of : Float → Float
eps_of t = f1e_4 ⊗ fmax t f1

unfoldable pub point_at : Vec3 → Vec3 → Float → Vec3
point_at ro rd t = vadd ro (vscale rd t)

-- the hit h at the point p of parameter t: tested before the end
unfoldable pub stepped_of : DistHit → Vec3 → Float → Float → Step
stepped_of h p t tmax =
    cond (lt h.d (eps_of t)) (Found (record { t = t; p = p; mat = h.mat }))
    (cond (lt tmax (t ⊕ h.d)) Past (On (t ⊕ h.d)))

abbrev pub step_at : Field → Vec3 → Vec3 → Float → Float → Step
step_at field ro rd tmax t = stepped_of (field (point_at ro rd t)) (point_at ro rd t) t tmax

unfoldable pub follow : {A : Type 0} → (Hit → A) → A → (Float → A) → Step → A  -- by an evaluation's outcome
follow found past on (Found h) = found h
follow found past on Past = past
follow found past on (On t) = on t

-- a march from t with so many evaluations left, after `made`
unfoldable pub march : Field → Vec3 → Vec3 → Float → ℕ → Float → ℕ → Traced
march field ro rd tmax zero t made = record { hit = None; count = made }
march field ro rd tmax (suc left) t made =
    follow (λ (h : Hit). record { hit = Some h; count = suc made }) (record { hit = None; count = suc made })
    (λ (next : Float). march field ro rd tmax left next (suc made))
    (step_at field ro rd tmax t)

unfoldable pub trace_of : Field → Vec3 → Vec3 → Float → Float → Traced
trace_of field ro rd tmin tmax = march field ro rd tmax trace_most tmin 0
