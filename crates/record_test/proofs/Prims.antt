-- What a primitive gets, kind by kind: only a capsule has an extent to test, and no other kind than seven is known. By
-- computation. And that it gets 0 where all its eight floats are in range, whichever of them it has. Assumes nothing.
use Prim.Native.Nat.{ℕ, zero, suc, ◌<◌, ◌≤◌}
use mathlib.Core.Path.{◌≡◌, refl, ◌∙◌}
use mathlib.Core.Bool.{Bool, true, not, ◌&&◌, and-eq-true_iff}
use native.Mathlib.Omega.{arith}
use borrow.Author.Tests.{ne_eqb, lt-leb}
use lib.Ieee.{Float, neg, le}
use Rattle.scalar.specs.F32.{f0}
use Rattle.scalar.specs.Ranges.{between, magnitude}
use Rattle.vectors.specs.declared.Vec3.{Vec3}
use Rattle.vectors.specs.Vec.{vsub}
use Rattle.refusals.specs.Refusals.{bad_number, no_extent, unless, lower}
use Rattle.refusals.specs.Ranges.{far, steep, up_to, within, within_up_to, coordinates, radius}
use Rattle.refusals.specs.Prims.{shape_of, shape_ok, no_length, flat, prim_number}
use Rattle.refusals.proofs.Lowest.{lower_none, lower_zero, unless_zero}
use Rattle.record_test.specs.Inside.Prims.{prim_in, least_of, none_above, none_below}

above_two : (k : ℕ) → (k ≡ 0 → ⊥) → (k ≡ 1 → ⊥) → (k ≡ 2 → ⊥) → 2 < k
above_two k n0 n1 n2 = omega arith

above_all : (k : ℕ) → 2 < k → (k ≡ 3 → ⊥) → (k ≡ 4 → ⊥) → (k ≡ 5 → ⊥) → (k ≡ 6 → ⊥) → 6 < k
above_all k h n3 n4 n5 n6 = omega arith

pub above_six
    : (k : ℕ) → (k ≡ 0 → ⊥) → (k ≡ 1 → ⊥) → (k ≡ 2 → ⊥) → (k ≡ 3 → ⊥) → (k ≡ 4 → ⊥) → (k ≡ 5 → ⊥)
    → (k ≡ 6 → ⊥) → 6 < k
above_six k n0 n1 n2 n3 n4 n5 n6 = above_all k (above_two k n0 n1 n2) n3 n4 n5 n6

module _ (a b : Vec3) (u v : Float) where
  pub sphere_number : prim_in 0 a b u v ≡ unless bad_number (coordinates a && radius b.x)
  unfolding prim_number shape_of shape_ok flat unless
  sphere_number = lower_none (unless bad_number (coordinates a && radius b.x))

  pub block_number : prim_in 1 a b u v ≡ unless bad_number (coordinates a && (within_up_to b far && radius u))
  unfolding prim_number shape_of shape_ok flat unless
  block_number = lower_none (unless bad_number (coordinates a && (within_up_to b far && radius u)))

  pub plane_number : prim_in 2 a b u v ≡ unless bad_number (within a steep && magnitude b.x far)
  unfolding prim_number shape_of shape_ok flat unless
  plane_number = lower_none (unless bad_number (within a steep && magnitude b.x far))

  pub capsule_number
      : prim_in 3 a b u v
      ≡ lower (unless bad_number (coordinates a && (coordinates b && radius u)))
      (unless no_extent (not (no_length (vsub b a))))
  unfolding prim_number shape_of shape_ok flat
  capsule_number = refl

  pub torus_number : prim_in 4 a b u v ≡ unless bad_number (coordinates a && (radius b.x && radius b.y))
  unfolding prim_number shape_of shape_ok flat unless
  torus_number = lower_none (unless bad_number (coordinates a && (radius b.x && radius b.y)))

  pub cylinder_number : prim_in 5 a b u v ≡ unless bad_number (coordinates a && (coordinates b && radius u))
  unfolding prim_number shape_of shape_ok flat unless
  cylinder_number = lower_none (unless bad_number (coordinates a && (coordinates b && radius u)))

  pub cone_number
      : prim_in 6 a b u v ≡ unless bad_number (coordinates a && (coordinates b && (radius u && radius v)))
  unfolding prim_number shape_of shape_ok flat unless
  cone_number = lower_none (unless bad_number (coordinates a && (coordinates b && (radius u && radius v))))

  pub other_number : (k : ℕ) → 6 < k → prim_in k a b u v ≡ bad_number
  unfolding prim_number shape_of shape_ok flat unless
  other_number k h =
      rw (
        ne_eqb k 0 (λ e. omega arith),
        ne_eqb k 1 (λ e. omega arith),
        ne_eqb k 2 (λ e. omega arith),
        ne_eqb k 3 (λ e. omega arith),
        ne_eqb k 4 (λ e. omega arith),
        ne_eqb k 5 (λ e. omega arith),
        lt-leb k 6 h,
      )
      (lower_none bad_number)

-- ---- in range, whichever floats a kind has
both : (p q : Bool) → p ≡ true → q ≡ true → p && q ≡ true
both p q h k = (and-eq-true_iff p q).1 (h, k)

clean : (p : Bool) → p ≡ true → unless bad_number p ≡ 0
clean p h = (unless_zero 0 p).1 h

-- eight tests in one
record Eight (a b c d e f g h : Bool) : Type 0 where
  pub t0 : a ≡ true
  pub t1 : b ≡ true
  pub t2 : c ≡ true
  pub t3 : d ≡ true
  pub t4 : e ≡ true
  pub t5 : f ≡ true
  pub t6 : g ≡ true
  pub t7 : h ≡ true

eight
    : (a b c d e f g h : Bool) → ((a && b) && (c && d)) && ((e && f) && (g && h)) ≡ true → Eight a b c d e f g h
eight a b c d e f g h p =
    let q = (and-eq-true_iff ((a && b) && (c && d)) ((e && f) && (g && h))).0 p in
    let l = (and-eq-true_iff (a && b) (c && d)).0 q.0 in
    let r = (and-eq-true_iff (e && f) (g && h)).0 q.1 in
    let ab = (and-eq-true_iff a b).0 l.0 in
    let cd = (and-eq-true_iff c d).0 l.1 in
    let ef = (and-eq-true_iff e f).0 r.0 in
    let gh = (and-eq-true_iff g h).0 r.1 in
    record {
      t0 = ab.0;
      t1 = ab.1;
      t2 = cd.0;
      t3 = cd.1;
      t4 = ef.0;
      t5 = ef.1;
      t6 = gh.0;
      t7 = gh.1;
    }

module _ (a b : Vec3) (u v least : Float) (above : none_above a b u v ≡ true)
    (below : none_below a b u v least ≡ true) where
  tops : Eight (le a.x far) (le a.y far) (le a.z far) (le b.x far) (le b.y far) (le b.z far)
      (le u far) (le v far)
  unfolding none_above
  tops = eight _ _ _ _ _ _ _ _ above

  feet : Eight (le (neg far) a.x) (le (neg far) a.y) (le (neg far) a.z) (le least b.x) (le least b.y)
      (le least b.z) (le f0 u) (le f0 v)
  unfolding none_below
  feet = eight _ _ _ _ _ _ _ _ below

  first : coordinates a ≡ true
  unfolding coordinates within magnitude between
  first =
      both _ _ (both _ _ feet.t0 tops.t0)
      (both _ _ (both _ _ feet.t1 tops.t1) (both _ _ feet.t2 tops.t2))

  bx : between least b.x far ≡ true
  unfolding between
  bx = both _ _ feet.t3 tops.t3

  by : between least b.y far ≡ true
  unfolding between
  by = both _ _ feet.t4 tops.t4

  bz : between least b.z far ≡ true
  unfolding between
  bz = both _ _ feet.t5 tops.t5

  ru : radius u ≡ true
  unfolding radius up_to between
  ru = both _ _ feet.t6 tops.t6

  rv : radius v ≡ true
  unfolding radius up_to between
  rv = both _ _ feet.t7 tops.t7

module _ (a b : Vec3) (u v : Float) (above : none_above a b u v ≡ true)
    (apart : not (no_length (vsub b a)) ≡ true) where
  -- two ends and a radius
  ends
      : none_below a b u v (neg far) ≡ true
      → (coordinates a ≡ true) × (coordinates b ≡ true) × (radius u ≡ true) × (radius v ≡ true)
  unfolding coordinates within magnitude
  ends h = (
    first a b u v _ above h,
    both _ _ (bx a b u v _ above h) (both _ _ (by a b u v _ above h) (bz a b u v _ above h)),
    ru a b u v _ above h,
    rv a b u v _ above h,
  )

  pub plain_number
      : (k : ℕ) → k ≤ 6 → (k ≡ 2 → ⊥) → none_below a b u v (least_of k) ≡ true → prim_in k a b u v ≡ 0
  unfolding least_of within_up_to radius up_to
  plain_number zero h n p =
      sphere_number a b u v ∙ clean _ (both _ _ (first a b u v f0 above p) (bx a b u v f0 above p))
  plain_number (suc zero) h n p =
      block_number a b u v
      ∙ clean _
      (both _ _ (first a b u v f0 above p)
      (both _ _ (both _ _ (bx a b u v f0 above p) (both _ _ (by a b u v f0 above p) (bz a b u v f0 above p)))
      (ru a b u v f0 above p)))
  plain_number (suc (suc zero)) h n p = absurd (n refl)
  plain_number (suc (suc (suc zero))) h n p =
      let e = ends p in
      capsule_number a b u v
      ∙ (lower_zero _ _).1 (clean _ (both _ _ e.0 (both _ _ e.1 e.2)), (unless_zero 3 _).1 apart)
  plain_number (suc (suc (suc (suc zero)))) h n p =
      torus_number a b u v
      ∙ clean _ (both _ _ (first a b u v f0 above p) (both _ _ (bx a b u v f0 above p) (by a b u v f0 above p)))
  plain_number (suc (suc (suc (suc (suc zero))))) h n p =
      let e = ends p in
      cylinder_number a b u v ∙ clean _ (both _ _ e.0 (both _ _ e.1 e.2))
  plain_number (suc (suc (suc (suc (suc (suc zero)))))) h n p =
      let e = ends p in
      cone_number a b u v ∙ clean _ (both _ _ e.0 (both _ _ e.1 (both _ _ e.2 e.3)))
  plain_number (suc (suc (suc (suc (suc (suc (suc k))))))) h n p = absurd (omega arith)
