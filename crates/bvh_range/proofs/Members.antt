-- The members of a range, one by one: their boxes, and the box around them and that of their centres. By induction on
-- the range, and by the definitions. Assumes nothing.
use Prim.Native.Nat.{ℕ, zero, suc, ◌+◌, ◌≤◌, ◌<◌}
use mathlib.Core.Path.{◌≡◌, refl, sym, ap, ◌∙◌}
use mathlib.Core.List.{List, [], ◌∷◌}
use native.Mathlib.Numerals.{add-one}
use native.Mathlib.Omega.{arith}
use lib.ListN.{length, get_or, drop, drop_of_length-le}
use lib.Seq.{drop-cons}
use Rattle.sdf.specs.declared.Aabb.{Aabb}
use Rattle.bvh_boxes.specs.Boxes.{nowhere, merge, box_at}
use Rattle.bvh_boxes.specs.Inside.Hulls.{hull_from}
use Rattle.bvh_range.specs.declared.Span.{Span}
use Rattle.bvh_range.specs.Range.{members, point, grow, span_from, span_of}

-- ---- the boxes of a range
pub members_length : (bs : List Aabb) (os : List ℕ) → length (members bs os) ≡ length os
unfolding members
members_length bs [] = refl
members_length bs (o ∷ os) = ap suc (members_length bs os)

pub members_at
    : (bs : List Aabb) (os : List ℕ) (i : ℕ) → i < length os
    → box_at (members bs os) i ≡ box_at bs (get_or os i 0)
unfolding members
members_at bs [] i h = absurd (omega arith)
members_at bs (o ∷ os) zero h = refl
members_at bs (o ∷ os) (suc i) h = members_at bs os i (omega arith)

hull_from_lem : (s : Span) (ms : List Aabb) → (span_from s ms).hull ≡ hull_from s.hull ms
unfolding span_from grow hull_from
hull_from_lem s [] = refl
hull_from_lem s (m ∷ ms) = hull_from_lem (grow s m) ms

pub span_hull : (bs : List Aabb) (os : List ℕ) → (span_of bs os).hull ≡ hull_from nowhere (members bs os)
unfolding span_of
span_hull bs os = hull_from_lem _ (members bs os)

-- ---- over the objects of a range
module _ (bs : List Aabb) (os : List ℕ) (i : ℕ) where
  pub members_more : i < length os → members bs (drop i os) ≡ box_at bs (get_or os i 0) ∷ members bs (drop (i + 1) os)
  unfolding members
  members_more h = rw (drop-cons os i 0 h, add-one)

  pub members_none : length os ≤ i → members bs (drop i os) ≡ []
  unfolding members
  members_none h = rw (drop_of_length-le os h)

  span_more : (s : Span) → i < length os
      → span_from s (members bs (drop i os)) ≡ span_from (grow s (box_at bs (get_or os i 0)))
      (members bs (drop (i + 1) os))
  unfolding span_from
  span_more s h = rw (members_more h)

  -- by a hull and centres that are held apart
  pub span_turn
      : (h h' c c' m p : Aabb) (s : Span) → i < length os
      → m ≡ box_at bs (get_or os i 0) → h' ≡ merge h m → p ≡ point m → c' ≡ merge c p
      → span_from (record { hull = h; centres = c }) (members bs (drop i os)) ≡ s
      → span_from (record { hull = h'; centres = c' }) (members bs (drop (i + 1) os)) ≡ s
  unfolding grow
  span_turn h h' c c' m p s l e₁ e₂ e₃ e₄ v =
      rw (e₂, e₄, e₃, e₁) (sym (span_more (record { hull = h; centres = c }) l) ∙ v)

  pub span_none : (s : Span) → length os ≤ i → span_from s (members bs (drop i os)) ≡ s
  unfolding span_from
  span_none s h = rw (members_none h)
