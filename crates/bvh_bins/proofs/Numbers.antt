-- Bins whose corners are numbers stay so, as boxes are dropped in and as they are swept. By the place of a box, and by
-- the cases of a test. Assumes nothing.
use Rattle.std.proofs.Common.{◌≡◌, ℕ, zero, suc, ◌<◌, ◌≤◌, Bool, true, false, cond, ◌||◌, eqb, List, length, set, replicate, sym, refl, ap, ◌∙◌, subst, ⊎_elim, arith, get_or-set_other, get_or-set_same}
use lib.ListN.{get_or-replicate}
use lib.Seq.{set_out}
use lib.Ieee.{Float, lt}
use Rattle.sdf.specs.declared.Aabb.{Aabb}
use Rattle.words.proofs.Laws.{less_or}
use Rattle.bvh_boxes.specs.Boxes.{nowhere, merge, box_at, no_box}
use Rattle.bvh_range.specs.Inside.Numbers.{Numbers}
use Rattle.bvh_range.proofs.Table.{same_or}
use Rattle.bvh_range.proofs.Numbers.{nowhere_numbers, merge_numbers}
use Rattle.bvh_bins.specs.declared.Sweep.{Sweep}
use Rattle.bvh_bins.specs.Bins.{Bins, left_box, cost_of, choose}
use Rattle.bvh_bins.specs.Inside.Sums.{AllNumbers}

pub left_numbers : (σ : Bins) (i : ℕ) → Numbers (left_box σ i)
unfolding left_box
left_numbers σ zero = nowhere_numbers
left_numbers σ (suc i) = merge_numbers (left_box σ i) (box_at σ.boxes i) (left_numbers σ i)

-- a split chosen keeps the hull
pub choose_hull : (s : Sweep) (la : Float) (lc i : ℕ) → (choose s la lc i).hull ≡ s.hull
unfolding choose
choose_hull s la lc i = go (eqb lc 0 || eqb s.count 0) (lt (cost_of la lc s.hull s.count) s.cost)
  where
    go
        : (p q : Bool)
        → (cond p s
        (cond q (record { hull = s.hull; count = s.count; cost = cost_of la lc s.hull s.count; split = i }) s)
        ).hull
        ≡ s.hull
    go true q = refl
    go false true = refl
    go false false = refl

-- ---- the boxes of all bins
pub nowhere_all : (bs : List Aabb) (m : ℕ) → m ≡ 12 → bs ≡ replicate m nowhere → AllNumbers bs
nowhere_all bs m e p = λ k l.
    subst Numbers (sym (ap (λ (w : List Aabb). box_at w k) p ∙ get_or-replicate m k nowhere no_box (omega arith)))
    nowhere_numbers

merged_all
    : (bs : List Aabb) (k : ℕ) (b : Aabb) → k ≤ 11 → AllNumbers bs
    → AllNumbers (set bs k (merge (box_at bs k) b))
merged_all bs k b l h = λ j q. ⊎_elim (at j q) (λ n. out j q n) (less_or k (length bs))
  where
    out : (j : ℕ) → j ≤ 11 → length bs ≤ k → Numbers (box_at (set bs k (merge (box_at bs k) b)) j)
    out j q n =
        subst Numbers (sym (ap (λ (w : List Aabb). box_at w j) (set_out bs k (merge (box_at bs k) b) n))) (h j q)

    other : (j : ℕ) → j ≤ 11 → (j ≡ k → ⊥) → Numbers (box_at (set bs k (merge (box_at bs k) b)) j)
    other j q n = subst Numbers (sym (get_or-set_other bs k j (merge (box_at bs k) b) no_box n)) (h j q)

    same : k < length bs → Numbers (box_at (set bs k (merge (box_at bs k) b)) k)
    same n =
        subst Numbers (sym (get_or-set_same bs k (merge (box_at bs k) b) no_box n)) (merge_numbers (box_at bs k) b (h k l))

    at : (j : ℕ) → j ≤ 11 → k < length bs → Numbers (box_at (set bs k (merge (box_at bs k) b)) j)
    at j q n =
        ⊎_elim
        (λ e. subst (λ (i : ℕ). Numbers (box_at (set bs k (merge (box_at bs k) b)) i)) (sym e) (same n))
        (other j q) (same_or j k)

pub all_turn
    : (bs bs' : List Aabb) (k : ℕ) (b : Aabb) → k ≤ 11 → bs' ≡ set bs k (merge (box_at bs k) b) → AllNumbers bs
    → AllNumbers bs'
all_turn bs bs' k b l e h = subst AllNumbers (sym e) (merged_all bs k b l h)
