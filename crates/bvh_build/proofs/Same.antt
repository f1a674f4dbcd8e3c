-- What is built depends on the boxes of the range's objects only. By one step of each definition, and induction on the
-- calls left. Assumes nothing.
use Rattle.std.proofs.Common.{◌≡◌, ℕ, zero, suc, ◌+◌, ◌<◌, Bool, true, false, cond, ltb, List, [], ◌∷◌, length, get_or, take, drop, sym, refl, ap, ◌∙◌, arith, length-drop, length-take, get_or-drop, get_or-take}
use Rattle.sdf.specs.declared.Aabb.{Aabb}
use Rattle.bvh_boxes.specs.Boxes.{box_at}
use Rattle.bvh_range.specs.declared.Span.{Span}
use Rattle.bvh_range.specs.Range.{members, span_from, no_span, span_of, extent_of, stops}
use Rattle.bvh_bins.specs.declared.Grid.{Grid}
use Rattle.bvh_bins.specs.Bins.{grid_of, no_bins, bin_of, bins_from, split_by}
use Rattle.bvh_split.specs.Part.{swapped, goes_left, Parted, part_from, parted, evened, split_of, cut_of}
use Rattle.bvh_split.proofs.Perms.{Each, perm_all}
use Rattle.bvh_split.proofs.Cuts.{swapped_perm, length_swapped, cut_all}
use Rattle.bvh_rules.specs.Rules.{leaf}
use Rattle.bvh_build.specs.Build.{TreeOrder, leaf_of, joined, build_from, build_of}
use Rattle.bvh_build.proofs.Fuel.{stops_at, cut_at, left_part, right_part, from_leaf, from_parts}

all_take : (P : ℕ → Type 0) (m : ℕ) (xs : List ℕ) → Each P xs → Each P (take m xs)
all_take P m xs h i l =
    let q : i < m = omega (arith, length-take m xs) in
    rw (get_or-take m xs i 0 q) (h i (omega (arith, length-take m xs)))

all_drop : (P : ℕ → Type 0) (m : ℕ) (xs : List ℕ) → Each P xs → Each P (drop m xs)
all_drop P m xs h i l = rw (get_or-drop m xs i 0) (h (m + i) (omega (arith, length-drop m xs)))

-- what holds of all members holds of all of each part
module _ (bs : List Aabb) (os : List ℕ) (P : ℕ → Type 0) (h : Each P os) where
  pub left_all : Each P (left_part bs os)
  left_all = all_take P (cut_at bs os).mid (cut_at bs os).order (cut_all bs os (span_of bs os).centres P h)

  pub right_all : Each P (right_part bs os)
  right_all = all_drop P (cut_at bs os).mid (cut_at bs os).order (cut_all bs os (span_of bs os).centres P h)

module _ (bs cs : List Aabb) where
  -- o has one box in both
  abbrev pub Alike : ℕ → Type 0
  Alike o = box_at bs o ≡ box_at cs o

  members_same : (os : List ℕ) → Each Alike os → members bs os ≡ members cs os
  unfolding members
  members_same [] h = refl
  members_same (o ∷ os) h = rw (h 0 (omega arith), members_same os (λ i l. h (suc i) (omega arith)))

  span_same : (os : List ℕ) → Each Alike os → span_of bs os ≡ span_of cs os
  unfolding span_of
  span_same os h = ap (span_from no_span) (members_same os h)

  -- ---- the cut
  left_same : (g : Grid) (split o : ℕ) → Alike o → goes_left bs g split o ≡ goes_left cs g split o
  unfolding goes_left
  left_same g split o e = ap (λ (x : Aabb). ltb (bin_of g x) split) e

  part_same : (g : Grid) (split n i mid : ℕ) (os : List ℕ) → i + n ≡ length os → Each Alike os
      → part_from bs g split n i mid os ≡ part_from cs g split n i mid os
  unfolding part_from
  part_same g split zero i mid os e h = refl
  part_same g split (suc n) i mid os e h =
      part_same g split n (i + 1) _ _ (next (goes_left bs g split (get_or os i 0)))
      (still (goes_left bs g split (get_or os i 0)))
      ∙ ap (λ (b : Bool). part_from cs g split n (i + 1) (cond b (mid + 1) mid) (cond b (swapped i mid os) os))
      (left_same g split (get_or os i 0) (h i (omega arith)))
    where
      next : (b : Bool) → i + 1 + n ≡ length (cond b (swapped i mid os) os)
      next true = omega (arith, length_swapped i mid os)
      next false = omega arith

      still : (b : Bool) → Each Alike (cond b (swapped i mid os) os)
      still true = perm_all Alike (swapped_perm i mid os) h
      still false = h

  cut_same : (os : List ℕ) (c : Aabb) → Each Alike os → cut_of bs os c ≡ cut_of cs os c
  unfolding cut_of parted split_of
  cut_same os c h =
      let s : split_of bs os c ≡ split_of cs os c = ap (λ (ms : List Aabb). split_by (bins_from (grid_of c) no_bins ms))
      (members_same os h) in
      ap (λ (p : Parted). record { mid = evened p.mid (length os); order = p.order })
      (ap (λ (k : ℕ). part_from bs (grid_of c) k (length os) 0 0 os) s ∙ part_same (grid_of c) (split_of cs os c)
      (length os) 0 0 os (omega arith) h)

  -- ---- one level
  stops_same : (os : List ℕ) → Each Alike os → stops_at bs os ≡ stops_at cs os
  stops_same os h = ap (λ (s : Span). stops (length os) (extent_of s.centres)) (span_same os h)

  cuts_same : (os : List ℕ) → Each Alike os → cut_at bs os ≡ cut_at cs os
  cuts_same os h =
      cut_same os (span_of bs os).centres h ∙ ap (λ (s : Span). cut_of cs os s.centres) (span_same os h)

  leaf_same : (os : List ℕ) → Each Alike os → leaf_of bs os ≡ leaf_of cs os
  leaf_same os h = ap (λ (s : Span). record { tree = leaf s.hull (length os); order = os }) (span_same os h)

  from_same
      : (k : ℕ) (b : Bool) (os : List ℕ) → stops_at bs os ≡ b → Each Alike os
      → build_from k bs os ≡ build_from k cs os
  unfolding build_from
  from_same zero b os p h = leaf_same os h
  from_same (suc k) true os p h =
      from_leaf bs os (suc k) p ∙ leaf_same os h ∙ sym (from_leaf cs os (suc k) (sym (stops_same os h) ∙ p))
  from_same (suc k) false os p h =
      let l = from_same k _ (left_part bs os) refl (left_all bs os Alike h) in
      let r = from_same k _ (right_part bs os) refl (right_all bs os Alike h) in
      from_parts bs os k p
      ∙ ap (λ (s : Span). joined s.hull (build_from k bs (left_part bs os)) (build_from k bs (right_part bs os)))
      (span_same os h)
      ∙ ap (λ (m : TreeOrder). joined (span_of cs os).hull m (build_from k bs (right_part bs os))) l
      ∙ ap (λ (m : TreeOrder). joined (span_of cs os).hull (build_from k cs (left_part bs os)) m) r
      ∙ ap (λ (q : Parted). joined (span_of cs os).hull (build_from k cs (take q.mid q.order))
      (build_from k cs (drop q.mid q.order))) (cuts_same os h)
      ∙ sym (from_parts cs os k (sym (stops_same os h) ∙ p))

  pub build_same : (os : List ℕ) → Each Alike os → build_of bs os ≡ build_of cs os
  unfolding build_of
  build_same os h = from_same (length os) _ os refl h
