-- "`direct` and `direct_diffuse` follow source document 003, at most 96 evaluations a light." Over any field and any
-- list of lights; counts are summed.
use Rattle.std.specs.Prelude.{◌≡◌, ℕ, ◌+◌, ◌≤◌, min, List, [], ◌∷◌}
use Rattle.std.specs.Option.{option_map_or}
use Rattle.scalar.specs.F32.{◌⊗◌, f0}
use Rattle.vectors.specs.declared.Vec3.{Vec3}
use Rattle.vectors.specs.Vec.{vsplat, vadd, vsub, vmul, vscale}
use Rattle.plan.specs.declared.Material.{Material}
use Rattle.plan.specs.declared.QuadLight.{QuadLight}
use Rattle.plan.specs.Sections.{lights}
use Rattle.plan.specs.Plan.{count_of}
use Rattle.trace.specs.Trace.{Field}
use Rattle.panel.specs.declared.Panel.{Panel}
use Rattle.reach.specs.declared.Site.{Site}
use Rattle.reach.specs.declared.Sight.{Sight}
use Rattle.lobe.specs.declared.View.{View}
use Rattle.reach.specs.declared.Reach.{Reach}
use Rattle.shade.specs.declared.Lit.{Lit}
use Rattle.panel.specs.Panels.{panel_of}
use Rattle.reach.specs.Reach.{site_of}
use Rattle.reach.specs.Reach.{reach_of}
use Rattle.lobe.specs.Lobe.{view_of, rep_of, gloss_of}

-- `out` stays where a panel does not reach; else `shine` adds to it
abbrev pub lit_by : (Sight → Vec3) → Vec3 → Reach → Lit
lit_by shine out r = record { light = option_map_or shine r.sight out; count = r.count }

-- one light, added to `out`, and its evaluations
unfoldable pub diffuse_step : Field → Site → Vec3 → Vec3 → QuadLight → Lit
diffuse_step field s albedo out l =
    lit_by (λ (g : Sight). vadd out (vscale (vmul albedo l.emit) (g.ff ⊗ g.vis))) out (reach_of field s (panel_of l))

-- `out` with the light of the panel a that is seen so: the diffuse part, then the lobe
unfoldable pub shone : Site → View → Panel → Vec3 → Sight → Vec3
shone s w a out g =
    let radiance = vscale a.emit g.vis in
    gloss_of w s.n (vsub (rep_of s w.v a) s.p) g.radius radiance
    (vadd out (vscale (vmul w.kd radiance) g.ff))

unfoldable pub direct_step : Field → Site → View → Vec3 → QuadLight → Lit
direct_step field s w out l = lit_by (shone s w (panel_of l) out) out (reach_of field s (panel_of l))

-- every light in order, after `made` evaluations
unfoldable pub lights_by : (Vec3 → QuadLight → Lit) → List QuadLight → Vec3 → ℕ → Lit
lights_by step [] out made = record { light = out; count = made }
lights_by step (l ∷ ls) out made = lights_by step ls (step out l).light (made + (step out l).count)

-- whatever a step may come to is what f says
abbrev pub Gives : (Vec3 → QuadLight → Lit → Type 0) → (Vec3 → QuadLight → Lit) → Type 0
Gives Post f = (out : Vec3) (l : QuadLight) (r : Lit) → Post out l r → r ≡ f out l

-- whatever a step may come to took so many evaluations at most
abbrev pub Takes : (Vec3 → QuadLight → Lit → Type 0) → ℕ → Type 0
Takes Post most = (out : Vec3) (l : QuadLight) (r : Lit) → Post out l r → r.count ≤ most

unfoldable pub direct_diffuse_of : Field → List QuadLight → Vec3 → Vec3 → Vec3 → Lit
direct_diffuse_of field ls p n albedo = lights_by (diffuse_step field (site_of p n) albedo) ls (vsplat f0) 0

unfoldable pub direct_of : Field → List QuadLight → Vec3 → Vec3 → Vec3 → Material → Lit
direct_of field ls p n v m = lights_by (direct_step field (site_of p n) (view_of n v m)) ls (vsplat f0) 0

unfoldable pub panels_in : List ℕ → ℕ  -- how many lights the code goes through: no more than a plan may have
panels_in w = min (count_of lights w) lights.most
