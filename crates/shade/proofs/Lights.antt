-- Loops over a plan's lights: the lights gone through are the first sixteen at most, one light more at the end is one
-- step more, and each takes at most 96 evaluations, since a shadow does. By induction on the list. Assumes nothing.
use Prim.Native.Nat.{ℕ, zero, suc, ◌+◌, ◌*◌, ◌≤◌, min}
use mathlib.Core.Path.{◌≡◌, refl, sym}
use mathlib.Core.Bool.{Bool, true, false, cond}
use mathlib.Core.List.{List, [], ◌∷◌, ◌++◌}
use native.Mathlib.Nat.{zero-add}
use native.Mathlib.Numerals.{add-one}
use native.Mathlib.Omega.{arith}
use Rattle.std.specs.Prelude.{Some, None}
use lib.ListN.{length, take}
use lib.Ieee.{Float, le}
use Rattle.scalar.specs.F32.{f1e_4, f1e_6}
use Rattle.words.specs.Lists.{list_from}
use Rattle.words.proofs.Runs.{from_snoc}
use Rattle.vectors.specs.declared.Vec3.{Vec3}
use Rattle.plan.specs.declared.Material.{Material}
use Rattle.plan.specs.declared.QuadLight.{QuadLight}
use Rattle.plan.specs.Sections.{lights}
use Rattle.plan.specs.Records.{light_in}
use Rattle.plan.specs.Plan.{plan_of, count_of}
use Rattle.trace.specs.Trace.{Field}
use Rattle.trace.proofs.Shadows.{shadow_count, shadow_few}
use Rattle.panel.specs.declared.Panel.{Panel}
use Rattle.reach.specs.declared.Site.{Site}
use Rattle.reach.specs.declared.Sight.{Sight}
use Rattle.lobe.specs.declared.View.{View}
use Rattle.reach.specs.declared.Reach.{Reach}
use Rattle.shade.specs.declared.Lit.{Lit}
use Rattle.panel.specs.Panels.{culled_of, radius_of}
use Rattle.reach.specs.Reach.{to_light, share_of, shadow_at, sight_of, reach_of}
use Rattle.shade.specs.Direct.{diffuse_step, direct_step, lights_by, direct_diffuse_of, direct_of, panels_in}

-- ---- the lights gone through
take_from : {A : Type 0} (g : ℕ → A) (a m n : ℕ) → take m (list_from g a n) ≡ list_from g a (min n m)
unfolding list_from
take_from g a zero n = let e : min n 0 ≡ 0 = omega arith in rw e
take_from g a (suc m) zero = let e : min 0 (suc m) ≡ 0 = omega arith in rw e
take_from g a (suc m) (suc n) =
    let e : min (suc n) (suc m) ≡ suc (min n m) = omega arith in
    rw (e, take_from g (suc a) m n)

pub lights_taken
    : (w : List ℕ) (f : List Float)
    → take lights.most (plan_of w f).lights ≡ list_from (light_in f) 0 (panels_in w)
unfolding plan_of panels_in
lights_taken w f = take_from (light_in f) 0 16 (count_of lights w)

pub panels_few : (w : List ℕ) → panels_in w ≤ 16
unfolding panels_in
panels_few w = omega arith

-- ---- evaluations
shadow_most : (field : Field) (s : Site) (to : Vec3) (radius : Float) → (shadow_at field s to radius).count ≤ 96
unfolding shadow_at
shadow_most field s to radius = rw shadow_count (shadow_few _ _ _ _ _ _)

pub reach_most : (field : Field) (s : Site) (a : Panel) → (reach_of field s a).count ≤ 96
unfolding reach_of sight_of
reach_most field s a =
    go (culled_of a (to_light s a)) (le (share_of s a) f1e_6)
    (le (shadow_at field s (to_light s a) (radius_of a)).vis f1e_4)
    _ _ (shadow_most field s (to_light s a) (radius_of a))
  where
    shut : ℕ → Reach
    shut n = record { sight = None; count = n }

    go
        : (c d e : Bool) (g : Sight) (n : ℕ)
        → n ≤ 96
        → (cond c (shut 0) (cond d (shut 0) (cond e (shut n) (record { sight = Some g; count = n })))).count ≤ 96
    go true d e g n h = omega arith
    go false true e g n h = omega arith
    go false false true g n h = h
    go false false false g n h = h

module _ (step : Vec3 → QuadLight → Lit) where
  -- after one light more
  abbrev more : Lit → QuadLight → Lit
  more r l = record { light = (step r.light l).light; count = r.count + (step r.light l).count }

  lights_snoc
      : (ls : List QuadLight) (l : QuadLight) (out : Vec3) (made : ℕ)
      → lights_by step (ls ++ (l ∷ [])) out made ≡ more (lights_by step ls out made) l
  unfolding lights_by
  lights_snoc [] l out made = refl
  lights_snoc (x ∷ ls) l out made = lights_snoc ls l (step out x).light (made + (step out x).count)

  abbrev Few : Type 0
  Few = (out : Vec3) (l : QuadLight) → (step out l).count ≤ 96

  lights_count
      : Few → (ls : List QuadLight) (out : Vec3) (made : ℕ)
      → (lights_by step ls out made).count ≤ made + 96 * length ls
  unfolding lights_by
  lights_count few [] out made = omega arith
  lights_count few (l ∷ ls) out made =
      omega (arith, few out l, lights_count few ls (step out l).light (made + (step out l).count))

  lights_all : Few → (ls : List QuadLight) (out : Vec3) → (lights_by step ls out 0).count ≤ 96 * length ls
  lights_all few ls out = omega (arith, lights_count few ls out 0)

  -- a loop over a list of a function of the index: at its start, and at a turn
  module _ (g : ℕ → QuadLight) (out : Vec3) where
    abbrev after : ℕ → Lit
    after j = lights_by step (list_from g 0 j) out 0

    pub lit_none : record { light = out; count = 0 } ≡ after 0
    unfolding lights_by list_from
    lit_none = refl

    module _ (j : ℕ) (r x : Lit) (e : r ≡ after j) (q : x ≡ step r.light (g j)) where
      pub lit_more : record { light = x.light; count = r.count + x.count } ≡ after (j + 1)
      lit_more = rw (add-one, from_snoc g 0 j, lights_snoc, zero-add, sym e, sym q)

-- ---- the counts of the calls
pub diffuse_most
    : (field : Field) (s : Site) (albedo out : Vec3) (l : QuadLight)
    → (diffuse_step field s albedo out l).count ≤ 96
unfolding diffuse_step
diffuse_most field s albedo out l = reach_most field s _

pub step_most
    : (field : Field) (s : Site) (w : View) (out : Vec3) (l : QuadLight)
    → (direct_step field s w out l).count ≤ 96
unfolding direct_step
step_most field s w out l = reach_most field s _

pub direct_diffuse_count
    : (field : Field) (ls : List QuadLight) (p n albedo : Vec3)
    → (direct_diffuse_of field ls p n albedo).count ≤ 96 * length ls
unfolding direct_diffuse_of
direct_diffuse_count field ls p n albedo = lights_all _ (diffuse_most field _ albedo) ls _

pub direct_count
    : (field : Field) (ls : List QuadLight) (p n v : Vec3) (m : Material)
    → (direct_of field ls p n v m).count ≤ 96 * length ls
unfolding direct_of
direct_count field ls p n v m = lights_all _ (step_most field _ _) ls _
