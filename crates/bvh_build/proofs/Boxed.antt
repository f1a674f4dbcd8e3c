-- The boxes of a built tree: each is the hull of its range's objects, so it is finite, holds the boxes of its parts and
-- of its objects, and fits its words. By the two ways of a range: a part's objects are the range's. Assumes nothing.
use Rattle.std.proofs.Common.{◌≡◌, ℕ, ◌+◌, ◌-◌, ◌<◌, false, T, List, length, get_or, sym, refl, ap, ◌∙◌, subst, subst₂, arith, length-append}
use Rattle.sdf.specs.declared.Aabb.{Aabb}
use Rattle.bvh_boxes.specs.Boxes.{finite_box, inside, nowhere, box_at}
use Rattle.bvh_boxes.specs.Inside.Hulls.{hull_from}
use Rattle.bvh_boxes.proofs.Laws.{StandIn, hull_whole, hull_holds, hull_of_some}
use Rattle.bvh_rules.specs.Rules.{hull, weight, Boxed}
use Rattle.bvh_range.specs.Range.{members, span_of}
use Rattle.bvh_range.proofs.Members.{members_length, members_at, span_hull}
use Rattle.bvh_split.proofs.Perms.{Each}
use Rattle.bvh_build.specs.Build.{TreeOrder, leaf_of, joined, build_of}
use Rattle.bvh_build.proofs.Fuel.{stops_at, left_part, right_part, build_each}
use Rattle.bvh_build.proofs.Same.{left_all, right_all}
use Rattle.bvh_build.proofs.Stands.{Reads, reads_left, reads_right, FitBox, FitTree}
use Rattle.bvh_build.proofs.Fitting.{hull_fits}

module _ (bs : List Aabb) where
  -- ---- the boxes of a range's members
  members_all
      : (P : Aabb → Type 0) (os : List ℕ) → Each (λ o. P (box_at bs o)) os → (i : ℕ)
      → i < length (members bs os)
      → P (box_at (members bs os) i)
  members_all P os h i l =
      let k : i < length os = omega (arith, members_length bs os) in
      subst P (sym (members_at bs os i k)) (h i k)

  -- a member of the range
  abbrev Of : List ℕ → ℕ → Type 0
  Of os o = (j : ℕ) × (j < length os) × (o ≡ get_or os j 0)

  of_all : (os : List ℕ) → Each (Of os) os
  of_all os i l = (i, l, refl)

  stand_in : (os xs : List ℕ) → Each (Of os) xs → StandIn (members bs xs) (members bs os)
  stand_in os xs h i l =
      let k : i < length xs = omega (arith, members_length bs xs) in
      let j = h i k in (
        j.0,
        omega (arith, members_length bs os, j.1),
        members_at bs xs i k ∙ ap (box_at bs) j.2 ∙ sym (members_at bs os j.0 j.1),
      )

  -- ---- what is built of a range
  abbrev pub Finite : ℕ → Type 0
  Finite o = T (finite_box (box_at bs o))

  abbrev pub Fit : ℕ → Type 0
  Fit o = FitBox (box_at bs o)

  pub record Tight (os : List ℕ) (m : TreeOrder) : Type 0 where
    pub around : hull m.tree ≡ hull_from nowhere (members bs os)
    pub weighs : weight m.tree ≡ length m.order
    pub fit : Each Fit os → FitTree m.tree
    pub boxed : Each Finite os → (o : List ℕ) (s : ℕ) → Reads o s m.order → Boxed o bs s m.tree

  module _ (os : List ℕ) where
    span_finite : Each Finite os → T (finite_box (span_of bs os).hull)
    span_finite h = rw (span_hull bs os) (hull_whole (members bs os) (members_all (λ b. T (finite_box b)) os h))

    span_fits : Each Fit os → FitBox (span_of bs os).hull
    span_fits h = rw (span_hull bs os) (hull_fits (members bs os) (members_all FitBox os h))

    span_holds
        : Each Finite os → (i : ℕ) → i < length os → T (inside (box_at bs (get_or os i 0)) (span_of bs os).hull)
    span_holds h i l =
        let k = hull_holds (members bs os) (members_all (λ b. T (finite_box b)) os h) i
        (omega (arith, members_length bs os)) in
        subst₂ (λ (a b : Aabb). T (inside a b)) (members_at bs os i l) (sym (span_hull bs os)) k

    part_inside
        : (xs : List ℕ) (b : Aabb) → Each (Of os) xs → b ≡ hull_from nowhere (members bs xs) → Each Finite os
        → T (inside b (span_of bs os).hull)
    part_inside xs b p e h =
        subst₂ (λ (a b : Aabb). T (inside a b)) (sym e) (sym (span_hull bs os))
        (hull_of_some (members bs xs) (members bs os) (members_all (λ b. T (finite_box b)) os h) (stand_in os xs p))

  leaf_tight : (os : List ℕ) → Tight os (leaf_of bs os)
  leaf_tight os =
      record {
        around = span_hull bs os;
        weighs = refl;
        fit = span_fits os;
        boxed = λ h o s r. (
          span_finite os h,
          λ i g l.
              let e : s + (i - s) ≡ i = omega arith in
              let k : i - s < length os = omega arith in
              let v : get_or o i 0 ≡ get_or os (i - s) 0 = ap (λ (j : ℕ). get_or o j 0) (sym e) ∙ r (i - s) k in
              subst (λ (x : ℕ). T (inside (box_at bs x) (span_of bs os).hull)) (sym v) (span_holds os h (i - s) k),
        );
      }

  node_tight
      : (os : List ℕ) → stops_at bs os ≡ false → (l r : TreeOrder) → Tight (left_part bs os) l
      → Tight (right_part bs os) r
      → Tight os (joined (span_of bs os).hull l r)
  node_tight os p l r a b =
      record {
        around = span_hull bs os;
        weighs = omega (arith, a.weighs, b.weighs, length-append l.order r.order);
        fit = λ h. (span_fits os h, a.fit (left_all bs os Fit h), b.fit (right_all bs os Fit h));
        boxed = λ h o s q. (
          span_finite os h,
          (
            part_inside os (left_part bs os) (hull l.tree) (left_all bs os (Of os) (of_all os)) a.around h,
            part_inside os (right_part bs os) (hull r.tree) (right_all bs os (Of os) (of_all os)) b.around h,
          ),
          (
            a.boxed (left_all bs os Finite h) o s (reads_left o s l.order r.order q),
            b.boxed (right_all bs os Finite h) o (s + weight l.tree)
                (reads_right o s l.order r.order (s + weight l.tree) (omega (arith, a.weighs)) q),
          ),
        );
      }

  pub build_tight : (os : List ℕ) → Tight os (build_of bs os)
  build_tight os = build_each bs Tight leaf_tight node_tight os
