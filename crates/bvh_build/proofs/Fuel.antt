-- One level of the builder: a range that stops is a leaf, any other is two smaller ranges joined, and as many calls as
-- there are objects are enough. By `cut_mid` and induction on the calls left. Assumes nothing.
use Rattle.std.proofs.Common.{◌≡◌, ℕ, zero, suc, ◌+◌, ◌-◌, ◌<◌, ◌≤◌, Bool, true, false, ◌||◌, T, leb, List, length, take, drop, sym, refl, ap, ◌∙◌, subst, arith, length-drop, length-take-le, leb-false}
use lib.Ieee.{lt}
use Rattle.sdf.specs.declared.Aabb.{Aabb}
use Rattle.vectors.specs.declared.Vec3.{Vec3}
use Rattle.vectors.specs.Vec.{vaxis}
use Rattle.bvh_range.specs.Range.{span_of, extent_of, axis_of, narrowest, stops}
use Rattle.bvh_split.specs.Part.{Parted, cut_of}
use Rattle.bvh_split.proofs.Cuts.{cut_length, cut_mid}
use Rattle.bvh_build.specs.Build.{TreeOrder, way_of, leaf_of, joined, build_from, build_of}

-- whether a range is a leaf; its cut and both parts
abbrev pub stops_at : List Aabb → List ℕ → Bool
stops_at bs os = stops (length os) (extent_of (span_of bs os).centres)

abbrev pub cut_at : List Aabb → List ℕ → Parted
cut_at bs os = cut_of bs os (span_of bs os).centres

abbrev pub left_part : List Aabb → List ℕ → List ℕ
left_part bs os = take (cut_at bs os).mid (cut_at bs os).order

abbrev pub right_part : List Aabb → List ℕ → List ℕ
right_part bs os = drop (cut_at bs os).mid (cut_at bs os).order

pub many_go : (n : ℕ) (e : Vec3) → stops n e ≡ false → 4 < n
unfolding stops
many_go n e p = go (leb n 4) (lt (vaxis e (axis_of e)) narrowest) refl p
  where
    go : (a b : Bool) → leb n 4 ≡ a → (a || b) ≡ false → 4 < n
    go true b q p = absurd (subst T p tt)
    go false b q p = leb-false n 4 q

module _ (bs : List Aabb) (os : List ℕ) where
  -- ---- both parts of a range that is no leaf
  module _ (p : stops_at bs os ≡ false) where
    mids : (0 < (cut_at bs os).mid) × ((cut_at bs os).mid < length os)
    mids = cut_mid bs os (span_of bs os).centres (many_go _ _ p)

    pub left_length : length (left_part bs os) ≡ (cut_at bs os).mid
    left_length =
        let m = mids in
        length-take-le (cut_at bs os).mid (cut_at bs os).order (omega (arith, cut_length bs os (span_of bs os).centres))

    pub right_length : length (right_part bs os) ≡ length os - (cut_at bs os).mid
    right_length =
        length-drop (cut_at bs os).mid (cut_at bs os).order ∙ ap (λ (n : ℕ). n - (cut_at bs os).mid)
        (cut_length bs os (span_of bs os).centres)

    pub left_some : 0 < length (left_part bs os)
    left_some = omega (arith, left_length, mids)

    pub right_some : 0 < length (right_part bs os)
    right_some = omega (arith, right_length, mids)

    pub parts_length : length (left_part bs os) + length (right_part bs os) ≡ length os
    parts_length = omega (arith, left_length, right_length, mids)

  -- ---- with some calls left
  pub from_leaf : (k : ℕ) → stops_at bs os ≡ true → build_from k bs os ≡ leaf_of bs os
  unfolding build_from way_of
  from_leaf zero p = refl
  from_leaf (suc k) p = rw p

  pub from_parts : (k : ℕ) → stops_at bs os ≡ false
      → build_from (suc k) bs os ≡ joined (span_of bs os).hull (build_from k bs (left_part bs os))
      (build_from k bs (right_part bs os))
  unfolding build_from way_of
  from_parts k p = rw p

-- by the two ways of a range
module _ (bs : List Aabb) (P : List ℕ → TreeOrder → Type 0) (leaf : (os : List ℕ) → P os (leaf_of bs os))
    (node : (os : List ℕ) → stops_at bs os ≡ false → (l r : TreeOrder) → P (left_part bs os) l → P
    (right_part bs os) r → P os (joined (span_of bs os).hull l r)) where
  from_each : (k : ℕ) (b : Bool) (os : List ℕ) → stops_at bs os ≡ b → P os (build_from k bs os)
  unfolding build_from
  from_each zero b os p = leaf os
  from_each (suc k) true os p = rw (from_leaf bs os (suc k) p) (leaf os)
  from_each (suc k) false os p =
      rw (from_parts bs os k p) (node os p _ _ (from_each k _ (left_part bs os) refl)
      (from_each k _ (right_part bs os) refl))

  pub build_each : (os : List ℕ) → P os (build_of bs os)
  unfolding build_of
  build_each os = from_each (length os) _ os refl

-- ---- as many calls as there are objects are enough
module _ (bs : List Aabb) where
  fuel
      : (k k' : ℕ) (b : Bool) (os : List ℕ) → stops_at bs os ≡ b → length os ≤ k → length os ≤ k'
      → build_from k bs os ≡ build_from k' bs os
  fuel zero k' true os p h h' = from_leaf bs os zero p ∙ sym (from_leaf bs os k' p)
  fuel (suc k) k' true os p h h' = from_leaf bs os (suc k) p ∙ sym (from_leaf bs os k' p)
  fuel zero k' false os p h h' = absurd (omega (arith, many_go _ _ p))
  fuel (suc k) zero false os p h h' = absurd (omega (arith, many_go _ _ p))
  fuel (suc k) (suc k') false os p h h' =
      let n = parts_length bs os p in
      let l = fuel k k' _ (left_part bs os) refl (omega (arith, right_some bs os p))
      (omega (arith, right_some bs os p)) in
      let r = fuel k k' _ (right_part bs os) refl (omega (arith, left_some bs os p))
      (omega (arith, left_some bs os p)) in
      from_parts bs os k p ∙ ap (λ (m : TreeOrder). joined (span_of bs os).hull m
      (build_from k bs (right_part bs os))) l
      ∙ ap (λ (m : TreeOrder). joined (span_of bs os).hull (build_from k' bs (left_part bs os)) m) r
      ∙ sym (from_parts bs os k' p)

  pub enough
      : (k k' : ℕ) (os : List ℕ) → length os ≤ k → length os ≤ k'
      → build_from k bs os ≡ build_from k' bs os
  enough k k' os h h' = fuel k k' _ os refl h h'

  pub build_leaf : (os : List ℕ) → stops_at bs os ≡ true → build_of bs os ≡ leaf_of bs os
  unfolding build_of
  build_leaf os p = from_leaf bs os (length os) p

  pub build_parts : (os : List ℕ) → stops_at bs os ≡ false
      → build_of bs os ≡ joined (span_of bs os).hull (build_of bs (left_part bs os)) (build_of bs (right_part bs os))
  unfolding build_of
  build_parts os p =
      let n = parts_length bs os p in
      let l = enough (length os) (length (left_part bs os)) (left_part bs os) (omega arith) (omega arith) in
      let r = enough (length os) (length (right_part bs os)) (right_part bs os) (omega arith) (omega arith) in
      enough (length os) (suc (length os)) os (omega arith) (omega arith) ∙ from_parts bs os (length os) p
      ∙ ap (λ (m : TreeOrder). joined (span_of bs os).hull m (build_from (length os) bs (right_part bs os))) l
      ∙ ap (λ (m : TreeOrder). joined (span_of bs os).hull
      (build_from (length (left_part bs os)) bs (left_part bs os)) m) r
