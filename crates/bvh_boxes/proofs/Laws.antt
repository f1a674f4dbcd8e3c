-- Boxes in order: `inside` is reflexive and transitive on finite boxes, a merge is the least box around two and the
-- hull the least around a list. By the laws of the corners, and induction on the list. Assumes nothing.
use Prim.Native.Nat.{ℕ, zero, suc, ◌<◌, suc-le-suc}
use mathlib.Core.Path.{◌≡◌, refl, sym, subst}
use mathlib.Core.List.{List, [], ◌∷◌, ◌++◌}
use native.Mathlib.Nat.{le_of_suc-le-suc, not-suc-le-zero, zero-lt-suc}
use lib.Dec.{T}
use lib.ListN.{length}
use lib.Ieee.{neg, le, of_bits}
use lib.Ieee.Fits.{and_l, and_r, and_i}
use Rattle.scalar.specs.Ranges.{between, magnitude}
use Rattle.vectors.specs.Vec.{vsplat}
use Rattle.sdf.specs.declared.Aabb.{Aabb}
use Rattle.refusals.specs.Ranges.{greatest, within}
use Rattle.bvh_boxes.specs.Boxes.{finite_box, all_at_most, inside, nowhere, merge, box_at}
use Rattle.bvh_boxes.specs.Inside.Hulls.{hull_from}
use Rattle.bvh_boxes.proofs.Vectors.{Below, Finite, below_of, of_below, finite_of, of_finite, at_least}
use Rattle.bvh_boxes.proofs.Vectors.{at_most}
use Rattle.bvh_boxes.proofs.Vectors.{finite_numbers, below_refl, below_trans, vmin_left}
use Rattle.bvh_boxes.proofs.Vectors.{vmin_right, vmin_greatest, vmax_left, vmax_right, vmax_least, vmin_finite}
use Rattle.bvh_boxes.proofs.Vectors.{vmax_finite}

-- ---- a test of boxes is one of each corner
module _ (a b : Aabb) (h : T (inside a b)) where
  pub inside_lo : Below b.lo a.lo
  unfolding inside
  inside_lo = below_of b.lo a.lo (and_l (all_at_most b.lo a.lo) (all_at_most a.hi b.hi) h)

  pub inside_hi : Below a.hi b.hi
  unfolding inside
  inside_hi = below_of a.hi b.hi (and_r (all_at_most b.lo a.lo) (all_at_most a.hi b.hi) h)

inside_by : (a b : Aabb) → Below b.lo a.lo → Below a.hi b.hi → T (inside a b)
unfolding inside
inside_by a b h k =
    and_i (all_at_most b.lo a.lo) (all_at_most a.hi b.hi) (of_below b.lo a.lo h) (of_below a.hi b.hi k)

module _ (a : Aabb) (h : T (finite_box a)) where
  pub finite_lo : Finite a.lo
  unfolding finite_box
  finite_lo = finite_of a.lo (and_l (within a.lo greatest) (within a.hi greatest) h)

  pub finite_hi : Finite a.hi
  unfolding finite_box
  finite_hi = finite_of a.hi (and_r (within a.lo greatest) (within a.hi greatest) h)

pub finite_by : (a : Aabb) → Finite a.lo → Finite a.hi → T (finite_box a)
unfolding finite_box
finite_by a h k = and_i (within a.lo greatest) (within a.hi greatest) (of_finite a.lo h) (of_finite a.hi k)

-- ---- `inside` is an order
pub inside_refl : (a : Aabb) → T (finite_box a) → T (inside a a)
inside_refl a h =
    inside_by a a (below_refl a.lo (finite_numbers a.lo (finite_lo a h)))
    (below_refl a.hi (finite_numbers a.hi (finite_hi a h)))

pub inside_trans : (a b c : Aabb) → T (inside a b) → T (inside b c) → T (inside a c)
inside_trans a b c h k =
    inside_by a c
    (below_trans c.lo b.lo a.lo (inside_lo b c k) (inside_lo a b h))
    (below_trans a.hi b.hi c.hi (inside_hi a b h) (inside_hi b c k))

-- ---- a merge is the least box around two
module _ (a b : Aabb) where
  pub merge_finite : T (finite_box a) → T (finite_box b) → T (finite_box (merge a b))
  unfolding merge
  merge_finite h k =
      finite_by (merge a b)
      (vmin_finite a.lo b.lo (finite_lo a h) (finite_lo b k))
      (vmax_finite a.hi b.hi (finite_hi a h) (finite_hi b k))

  pub merge_left : T (finite_box a) → T (inside a (merge a b))
  unfolding merge
  merge_left h =
      inside_by a (merge a b)
      (vmin_left a.lo b.lo (finite_numbers a.lo (finite_lo a h)))
      (vmax_left a.hi b.hi (finite_numbers a.hi (finite_hi a h)))

  pub merge_right : T (finite_box b) → T (inside b (merge a b))
  unfolding merge
  merge_right h =
      inside_by b (merge a b)
      (vmin_right a.lo b.lo (finite_numbers b.lo (finite_lo b h)))
      (vmax_right a.hi b.hi (finite_numbers b.hi (finite_hi b h)))

  pub merge_least : (c : Aabb) → T (inside a c) → T (inside b c) → T (inside (merge a b) c)
  unfolding merge
  merge_least c h k =
      inside_by (merge a b) c
      (vmin_greatest a.lo b.lo c.lo (inside_lo a c h) (inside_lo b c k))
      (vmax_least a.hi b.hi c.hi (inside_hi a c h) (inside_hi b c k))

-- ---- the box around nothing is finite, and lies within every finite box
pub nowhere_finite : T (finite_box nowhere)
unfolding vsplat
nowhere_finite = finite_by nowhere (record { x = top; y = top; z = top }) (record { x = low; y = low; z = low })
  where
    top : T (magnitude greatest greatest)
    top = unfold magnitude between of_bits neg le in tt

    low : T (magnitude (neg greatest) greatest)
    low = unfold magnitude between of_bits neg le in tt

pub nowhere_inside : (c : Aabb) → T (finite_box c) → T (inside nowhere c)
unfolding vsplat
nowhere_inside c h =
    let l = finite_lo c h in
    let u = finite_hi c h in
    inside_by nowhere c
    (record { x = at_most c.lo.x l.x; y = at_most c.lo.y l.y; z = at_most c.lo.z l.z })
    (record { x = at_least c.hi.x u.x; y = at_least c.hi.y u.y; z = at_least c.hi.z u.z })

-- ---- the hull is the least box around a list
abbrev pub AllFinite : List Aabb → Type 0
AllFinite bs = (i : ℕ) → i < length bs → T (finite_box (box_at bs i))

abbrev pub AllInside : List Aabb → Aabb → Type 0
AllInside bs c = (i : ℕ) → i < length bs → T (inside (box_at bs i) c)

pub hull_finite : (a : Aabb) (bs : List Aabb) → T (finite_box a) → AllFinite bs → T (finite_box (hull_from a bs))
unfolding hull_from
hull_finite a [] h k = h
hull_finite a (b ∷ bs) h k =
    hull_finite (merge a b) bs (merge_finite a b h (k 0 (zero-lt-suc (length bs)))) (λ i l. k (suc i) (suc-le-suc l))

pub hull_start : (a : Aabb) (bs : List Aabb) → T (finite_box a) → AllFinite bs → T (inside a (hull_from a bs))
unfolding hull_from
hull_start a [] h k = inside_refl a h
hull_start a (b ∷ bs) h k =
    inside_trans a (merge a b) (hull_from (merge a b) bs) (merge_left a b h)
    (hull_start (merge a b) bs (merge_finite a b h (k 0 (zero-lt-suc (length bs)))) (λ i l. k (suc i) (suc-le-suc l)))

pub hull_each : (a : Aabb) (bs : List Aabb) → T (finite_box a) → AllFinite bs → AllInside bs (hull_from a bs)
unfolding hull_from
hull_each a [] h k i l = absurd (not-suc-le-zero l)
hull_each a (b ∷ bs) h k zero l =
    inside_trans b (merge a b) (hull_from (merge a b) bs) (merge_right a b (k 0 l))
    (hull_start (merge a b) bs (merge_finite a b h (k 0 l)) (λ i l. k (suc i) (suc-le-suc l)))
hull_each a (b ∷ bs) h k (suc i) l =
    hull_each (merge a b) bs (merge_finite a b h (k 0 (zero-lt-suc (length bs)))) (λ i l. k (suc i) (suc-le-suc l)) i
    (le_of_suc-le-suc l)

pub hull_least
    : (a : Aabb) (bs : List Aabb) (c : Aabb) → T (inside a c) → AllInside bs c → T (inside (hull_from a bs) c)
unfolding hull_from
hull_least a [] c h k = h
hull_least a (b ∷ bs) c h k =
    hull_least (merge a b) bs c (merge_least a b c h (k 0 (zero-lt-suc (length bs)))) (λ i l. k (suc i) (suc-le-suc l))

-- from nowhere on
pub hull_whole : (bs : List Aabb) → AllFinite bs → T (finite_box (hull_from nowhere bs))
hull_whole bs = hull_finite nowhere bs nowhere_finite

pub hull_holds : (bs : List Aabb) → AllFinite bs → AllInside bs (hull_from nowhere bs)
hull_holds bs = hull_each nowhere bs nowhere_finite

pub hull_inside
    : (bs : List Aabb) (c : Aabb) → T (finite_box c) → AllInside bs c → T (inside (hull_from nowhere bs) c)
hull_inside bs c h = hull_least nowhere bs c (nowhere_inside c h)

-- each box of xs stands in ys
abbrev pub StandIn : List Aabb → List Aabb → Type 0
StandIn xs ys = (i : ℕ) → i < length xs → (j : ℕ) × (j < length ys) × (box_at xs i ≡ box_at ys j)

pub hull_of_some
    : (xs ys : List Aabb) → AllFinite ys → StandIn xs ys → T (inside (hull_from nowhere xs) (hull_from nowhere ys))
hull_of_some xs ys h k = hull_inside xs (hull_from nowhere ys) (hull_whole ys h) each
  where
    each : AllInside xs (hull_from nowhere ys)
    each i l = let j = k i l in subst (λ (b : Aabb). T (inside b (hull_from nowhere ys))) (sym j.2) (hull_holds ys h j.0 j.1)

-- one more at the end, for a loop
pub hull_snoc : (a : Aabb) (bs : List Aabb) (b : Aabb) → hull_from a (bs ++ (b ∷ [])) ≡ merge (hull_from a bs) b
unfolding hull_from
hull_snoc a [] b = refl
hull_snoc a (x ∷ bs) b = hull_snoc (merge a x) bs b
