-- "`soft_shadow`: at most 96; 0 below 1e-4 of distance or 1e-3 of visibility; when receding, y = 0 and d = h;
-- visibility always lies in 0 to 1." Over any field.
use Rattle.std.specs.Prelude.{ℕ, zero, suc, cond, Option, Some, None, Float}
use Rattle.std.specs.Float.Ieee.{lt}
use Rattle.root.specs.Root.{root_of}
use Rattle.scalar.specs.F32.{◌⊕◌, ◌⊖◌, ◌⊗◌, ◌⊘◌, f0, f1, f2, f0·006, f0·12, f1e20, f1e_3, f1e_4}
use Rattle.scalar.specs.Extremes.{fmin, fmax, clamp_of}
use Rattle.vectors.specs.declared.Vec3.{Vec3}
use Rattle.trace.specs.declared.Cone.{Cone}
use Rattle.trace.specs.declared.Shadow.{Shadow}
use Rattle.trace.specs.Trace.{Field, point_at}

abbrev pub shadow_most : ℕ
shadow_most = 96

pub record Gap : Type 0 where  -- where the segment between the distances ph and h came nearest: y back, d near
  pub y : Float
  pub d : Float

abbrev pub back_of : Float → Float → Float
back_of h ph = h ⊗ h ⊘ (f2 ⊗ ph)

unfoldable pub gap_of : Float → Float → Gap
gap_of h ph =
    cond (lt h ph)
    (record { y = back_of h ph; d = root_of (fmax (h ⊗ h ⊖ back_of h ph ⊗ back_of h ph) f0) })
    (record { y = f0; d = h })

unfoldable pub darker_of : Cone → Float → Float → Float  -- what is left of the light after the distance h
darker_of c h k = let g = gap_of h c.ph in fmin c.res (k ⊗ g.d ⊘ fmax (c.t ⊖ g.y) f1e_4)

unfoldable pub passed_of : Cone → Float → Float → Option Cone
passed_of c h k =
    cond (lt h f1e_4) None
    (cond (lt (darker_of c h k) f1e_3) None
    (Some (record { res = darker_of c h k; ph = h; t = c.t ⊕ clamp_of h f0·006 f0·12 })))

unfoldable pub seen_of : Float → ℕ → Shadow
seen_of res made = record { vis = clamp_of res f0 f1; count = made }

unfoldable pub pass : {A : Type 0} → A → (Cone → A) → Option Cone → A  -- by an evaluation's outcome
pass dark going None = dark
pass dark going (Some c) = going c

abbrev pub pass_at : Field → Vec3 → Vec3 → Float → Cone → Option Cone
pass_at field ro rd k c = passed_of c (field (point_at ro rd c.t)).d k

-- a march with so many evaluations left, after `made`; the end is tested before each
unfoldable pub cone_march : Field → Vec3 → Vec3 → Float → Float → ℕ → Cone → ℕ → Shadow
cone_march field ro rd tmax k zero c made = seen_of c.res made
cone_march field ro rd tmax k (suc left) c made =
    cond (lt c.t tmax)
    (pass (record { vis = f0; count = suc made }) (λ (next : Cone). cone_march field ro rd tmax k left next (suc made))
    (pass_at field ro rd k c))
    (seen_of c.res made)

abbrev pub cone_from : Float → Cone
cone_from tmin = record { res = f1; ph = f1e20; t = tmin }

unfoldable pub shadow_of : Field → Vec3 → Vec3 → Float → Float → Float → Shadow
shadow_of field ro rd tmin tmax k = cone_march field ro rd tmax k shadow_most (cone_from tmin) 0
