-- A light as shading uses it, and number 9: "the computed length from shading point to some light's centre is 0".
use Rattle.std.specs.Prelude.{ℕ, Bool, cond, List, Float}
use Rattle.std.specs.Float.Ieee.{le, eq}
use Rattle.root.specs.Root.{root_of}
use Rattle.scalar.specs.F32.{◌⊘◌, f0, fpi, f1e_4}
use Rattle.scalar.specs.Extremes.{fmax}
use Rattle.vectors.specs.declared.Vec3.{Vec3}
use Rattle.vectors.specs.Vec.{vsub, vneg, vdot, vlength, vnormalize}
use Rattle.refusals.specs.Refusals.{at_light, lowest_of}
use Rattle.plan.specs.declared.QuadLight.{QuadLight}
use Rattle.quad.specs.declared.Quad.{Quad}
use Rattle.quad.specs.Quad.{center_of, normal_of, area_of}
use Rattle.panel.specs.declared.Panel.{Panel}

abbrev pub quad_of : QuadLight → Quad
quad_of l = record { v0 = l.v0; v1 = l.v1; v2 = l.v2; v3 = l.v3 }

unfoldable pub panel_of : QuadLight → Panel
panel_of l =
    record { quad = quad_of l; center = center_of (quad_of l); normal = normal_of (quad_of l); emit = l.emit }

unfoldable pub culled_of : Panel → Vec3 → Bool  -- it faces away from a point that `to` leads from
culled_of a to = le (vdot a.normal (vneg (vnormalize to))) f0

unfoldable pub radius_of : Panel → Float
radius_of a = fmax (root_of (area_of a.quad ⊘ fpi)) f1e_4

unfoldable pub at_light_number : Vec3 → QuadLight → ℕ
at_light_number p l = cond (eq (vlength (vsub (panel_of l).center p)) f0) at_light 0

unfoldable pub panels_number : Vec3 → List QuadLight → ℕ  -- culled lights too
panels_number p ls = lowest_of (at_light_number p) ls
