-- Whether a panel reaches a point of a surface, and how: the source's `direct` up to its visibility.
use Rattle.std.specs.Prelude.{cond, Some, None, Float}
use Rattle.std.specs.Float.Ieee.{le}
use Rattle.scalar.specs.F32.{◌⊖◌, ◌⊗◌, ◌⊘◌, f96, f1·25, f1·5, f0·015, f0·05, f3e_3, f1e_4, f1e_6}
use Rattle.scalar.specs.Extremes.{fmax, clamp_of}
use Rattle.vectors.specs.declared.Vec3.{Vec3}
use Rattle.vectors.specs.Vec.{vadd, vsub, vscale, vover, vlength}
use Rattle.ltc.specs.Frame.{frame_of, to_local_of}
use Rattle.ltc.specs.FormFactor.{form_factor_of}
use Rattle.trace.specs.declared.Shadow.{Shadow}
use Rattle.trace.specs.Trace.{Field}
use Rattle.trace.specs.Shadow.{shadow_of}
use Rattle.panel.specs.declared.Panel.{Panel}
use Rattle.reach.specs.declared.Site.{Site}
use Rattle.reach.specs.declared.Reach.{Reach}
use Rattle.panel.specs.Panels.{culled_of, radius_of}

unfoldable pub site_of : Vec3 → Vec3 → Site  -- a point of a surface with its normal, and the frame about that
site_of p n = record { p = p; n = n; frame = frame_of n }

abbrev pub to_light : Site → Panel → Vec3
to_light s a = vsub a.center s.p

abbrev pub share_of : Site → Panel → Float  -- its share of the hemisphere
share_of s a = form_factor_of (to_local_of a.quad s.p s.frame s.n)

-- one cone toward the light, from just off the surface to more than a radius short of the panel
unfoldable pub shadow_at : Field → Site → Vec3 → Float → Shadow
shadow_at field s to radius =
    let dist = vlength to in
    shadow_of field (vadd s.p (vscale s.n f3e_3)) (vover to dist) f0·015 (fmax (dist ⊖ radius ⊗ f1·25) f0·05)
    (clamp_of (dist ⊘ radius) f1·5 f96)

-- what is seen past a shadow: nothing where that leaves next to no light
unfoldable pub sight_of : Float → Float → Shadow → Reach
sight_of ff radius shadow =
    cond (le shadow.vis f1e_4) (record { sight = None; count = shadow.count })
    (record { sight = Some (record { ff = ff; vis = shadow.vis; radius = radius }); count = shadow.count })

unfoldable pub reach_of : Field → Site → Panel → Reach
reach_of field s a =
    cond (culled_of a (to_light s a)) (record { sight = None; count = 0 })
    (cond (le (share_of s a) f1e_6) (record { sight = None; count = 0 })
    (sight_of (share_of s a) (radius_of a) (shadow_at field s (to_light s a) (radius_of a))))
