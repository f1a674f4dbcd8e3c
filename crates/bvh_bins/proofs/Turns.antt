-- What the loops over a range and over the bins need at a turn and at their end. By the definitions, one step of each.
-- Assumes nothing.
use Rattle.std.proofs.Common.{◌≡◌, ℕ, zero, suc, ◌+◌, ◌-◌, ◌/◌, ◌<◌, ◌≤◌, List, length, get_or, take, drop, set, replicate, sym, refl, ap, ◌∙◌, add-one, arith, take_all, take-suc-set}
use lib.ListN.{replicate-append-replicate}
use lib.Ieee.{Float}
use Rattle.sdf.specs.declared.Aabb.{Aabb}
use Rattle.words.specs.Lists.{list_from}
use Rattle.words.proofs.Runs.{get_d_from}
use Rattle.bvh_boxes.specs.Boxes.{nowhere, merge, box_at}
use Rattle.bvh_range.specs.declared.Row.{Row}
use Rattle.bvh_range.specs.Inside.Table.{table_boxes, box_of_row, with_row}
use Rattle.bvh_range.specs.Range.{members}
use Rattle.bvh_range.proofs.Members.{members_more, members_none}
use Rattle.bvh_range.proofs.Table.{box_count, length_put_row, rows_put}
use Rattle.bvh_bins.specs.declared.Grid.{Grid}
use Rattle.bvh_bins.specs.declared.Left.{Left}
use Rattle.bvh_bins.specs.declared.Sweep.{Sweep}
use Rattle.bvh_bins.specs.Bins.{bin_of, plus, Bins, no_bins, drop_in, bins_from, area, left_box, left_count, take_bin}
use Rattle.bvh_bins.specs.Bins.{choose, sweep_at, sweep_from, split_by}
use Rattle.bvh_bins.specs.Inside.Sums.{binned, left_area, left_through, left_at}

-- ---- over the objects of a range
module _ (bs : List Aabb) (os : List ℕ) (i : ℕ) where
  bins_more : (g : Grid) (σ : Bins) → i < length os
      → bins_from g σ (members bs (drop i os)) ≡ bins_from g (drop_in g σ (box_at bs (get_or os i 0)))
      (members bs (drop (i + 1) os))
  unfolding bins_from
  bins_more g σ h = rw (members_more bs os i h)

  pub bins_none : (g : Grid) (σ : Bins) → length os ≤ i → bins_from g σ (members bs (drop i os)) ≡ σ
  unfolding bins_from
  bins_none g σ h = rw (members_none bs os i h)

-- a box dropped into the two arrays is dropped into the bins that they hold
drop_binned : (g : Grid) (f f' : List Float) (n n' : List ℕ) (k : ℕ) (m : Aabb) → k ≡ bin_of g m
    → table_boxes f' ≡ set (table_boxes f) k (merge (box_at (table_boxes f) k) m) → n' ≡ set n k (plus (get_or n k 0) 1)
    → binned f' n' ≡ drop_in g (binned f n) m
unfolding drop_in
drop_binned g f f' n n' k m e p q = rw (p, q, e)

pub bins_turn
    : (bs : List Aabb) (os : List ℕ) (i : ℕ) (g : Grid) (f f' : List Float) (n n' : List ℕ) (k : ℕ) (m : Aabb)
    (σ : Bins)
    → i < length os
    → m ≡ box_at bs (get_or os i 0) → k ≡ bin_of g m
    → table_boxes f' ≡ set (table_boxes f) k (merge (box_at (table_boxes f) k) m) → n' ≡ set n k (plus (get_or n k 0) 1)
    → bins_from g (binned f n) (members bs (drop i os)) ≡ σ → bins_from g (binned f' n')
    (members bs (drop (i + 1) os)) ≡ σ
bins_turn bs os i g f f' n n' k m σ h e₁ e₂ p q v =
    rw (drop_binned g f f' n n' k m e₂ p q, e₁) (sym (bins_more bs os i g (binned f n) h) ∙ v)

-- ---- a table filled with empty boxes
module _ (t t' : List Float) (k : ℕ) (b : Row) (p : t' ≡ with_row t k b) where
  pub length_turn : length t' ≡ length t
  length_turn = ap length p ∙ length_put_row t k b

  pub empty_turn
      : box_of_row b ≡ nowhere → k < length t / 8 → take k (table_boxes t) ≡ replicate k nowhere
      → take (k + 1) (table_boxes t') ≡ replicate (k + 1) nowhere
  empty_turn e h q =
      rw (p, rows_put, e, add-one, take-suc-set (table_boxes t) k nowhere (omega (arith, box_count t)), q)
      (replicate-append-replicate k 1 nowhere ∙ ap (λ (n : ℕ). replicate n nowhere) (add-one k))

pub empty_all
    : (t : List Float) (k n : ℕ) → length t / 8 ≡ n → n ≤ k → k ≤ n
    → take k (table_boxes t) ≡ replicate k nowhere
    → table_boxes t ≡ replicate n nowhere
empty_all t k n e h h' p =
    let q : k ≡ n = omega arith in
    sym (take_all k (table_boxes t) (omega (arith, box_count t))) ∙ p ∙ ap (λ (m : ℕ). replicate m nowhere) q

-- ---- over the bins, from the left
module _ (σ : Bins) (i : ℕ) where
  pub box_turn
      : (h h' m : Aabb) → h' ≡ merge h m → m ≡ box_at σ.boxes i → h ≡ left_box σ i
      → h' ≡ left_box σ (i + 1)
  unfolding left_box
  box_turn h h' m p q e = rw (p, q, e, add-one)

  pub count_turn
      : (n n' : ℕ) → n' ≡ plus n (get_or σ.counts i 0) → n ≡ left_count σ i → n' ≡ left_count σ (i + 1)
  unfolding left_count
  count_turn n n' p e = rw (p, e, add-one)

  pub left_turn
      : (h : Aabb) (v : Float) (n : ℕ) → v ≡ area h → h ≡ left_box σ (i + 1) → n ≡ left_count σ (i + 1)
      → record { area = v; count = n } ≡ left_at σ i
  unfolding left_area left_through
  left_turn h v n p e c = rw (p, e, c, add-one)

-- one split more, with the left sums read from their list
pub sweep_more : (σ : Bins) (lefts : List Left) (i : ℕ) (d : Left) (s : Sweep) → 0 < i → i ≤ 11
    → lefts ≡ list_from (left_at σ) 0 12
    → sweep_from σ i s
    ≡ sweep_from σ (i - 1)
    (choose (take_bin s (box_at σ.boxes i) (get_or σ.counts i 0)) (get_or lefts (i - 1) d).area
    (get_or lefts (i - 1) d).count i)
unfolding sweep_from sweep_at left_area left_through
sweep_more σ lefts zero d s h l p = absurd (omega arith)
sweep_more σ lefts (suc k) d s h l p =
    let z : suc k - 1 ≡ k = omega arith in
    let y : 0 + k ≡ k = omega arith in
    rw (z, p, get_d_from (left_at σ) 0 12 k d (omega arith), y)

pub sweep_none : (σ : Bins) (i : ℕ) (s : Sweep) → i ≤ 0 → sweep_from σ i s ≡ s
unfolding sweep_from
sweep_none σ zero s h = refl
sweep_none σ (suc i) s h = absurd (omega arith)

-- the bins of a range, filled and swept, from what each step says
pub best_of
    : (g : Grid) (ms : List Aabb) (f f' : List Float) (n n' : List ℕ) (lefts : List Left) (m r : ℕ)
    → m ≡ 12 → n ≡ replicate 12 0
    → table_boxes f ≡ replicate m nowhere → binned f' n' ≡ bins_from g (binned f n) ms
    → lefts ≡ list_from (left_at (binned f' n')) 0 12
    → (lefts ≡ list_from (left_at (binned f' n')) 0 12 → r ≡ split_by (binned f' n'))
    → r ≡ split_by (bins_from g no_bins ms)
best_of g ms f f' n n' lefts m r e₁ e₂ p q l s =
    let e : binned f n ≡ no_bins = rw (p, e₁, e₂) in
    s l ∙ ap split_by (q ∙ ap (λ (σ : Bins). bins_from g σ ms) e)
