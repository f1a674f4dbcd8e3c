-- A row put into a table of boxes is put as a box into the list of its boxes, and so for each place of the list. By
-- the place of each float. Assumes nothing.
use Prim.Native.Nat.{ℕ, suc, ◌+◌, ◌-◌, ◌*◌, ◌/◌, ◌≤◌, ◌<◌}
use mathlib.Core.Path.{◌≡◌, sym, ap, subst, ◌∙◌}
use mathlib.Core.Logic.{◌⊎◌, ⊎_elim, inl, inr}
use mathlib.Core.List.{List, [], ◌∷◌, ◌++◌, append_assoc}
use native.Mathlib.Nat.{add-zero}
use native.Mathlib.Numerals.{add-one}
use native.Mathlib.Omega.{arith}
use lib.ListN.{length, get_or, set, take, drop, length-set, length-append, length-take, length-drop, get_or-append}
use lib.Seq.{sets-eq, set_out, length-take-le, get_or-take, get_or-drop, get_or-append-add, get_or-set_same, get_or-set_other}
use lib.Seq.{ext_get_or}
use lib.Ieee.{Float, nan}
use borrow.Author.Tests.{lt-ltb, le-ltb}
use Rattle.sdf.specs.declared.Aabb.{Aabb}
use Rattle.words.proofs.Laws.{less_or}
use Rattle.words.proofs.Runs.{get_d_from, get_d_past, length_from}
use Rattle.bvh_boxes.specs.Boxes.{box_at, no_box}
use Rattle.bvh_range.specs.declared.Row.{Row}
use Rattle.bvh_range.specs.Inside.Table.{table_box, table_boxes, box_of_row, with_row, row_for, put_box}

pub same_or : (i j : ℕ) → (i ≡ j) ⊎ (i ≡ j → ⊥)
same_or i j =
    ⊎_elim (λ h. inr (λ e. omega arith)) (λ h. ⊎_elim (λ q. inr (λ e. omega arith)) (λ q. inl (omega arith))
    (less_or j i)) (less_or i j)

pub box_count : (f : List Float) → length (table_boxes f) ≡ length f / 8
unfolding table_boxes
box_count f = length_from (table_box f) 0 (length f / 8)

pub box_here : (f : List Float) (k : ℕ) → k < length f / 8 → box_at (table_boxes f) k ≡ table_box f k
unfolding table_boxes
box_here f k h =
    let z : 0 + k ≡ k = omega arith in
    get_d_from (table_box f) 0 (length f / 8) k no_box h ∙ ap (table_box f) z

pub box_past : (f : List Float) (k : ℕ) → length f / 8 ≤ k → box_at (table_boxes f) k ≡ no_box
unfolding table_boxes
box_past f k h = get_d_past (table_box f) 0 (length f / 8) k no_box h

-- ---- the eight floats of a row put
abbrev eight : Row → List Float
eight r =
    r.lo.x ∷ r.lo.y ∷ r.lo.z ∷ r.lo.w ∷ r.hi.x ∷ r.hi.y ∷ r.hi.z ∷ r.hi.w ∷ []

abbrev with : List Float → ℕ → Row → List Float
with f p r = take p f ++ (eight r ++ drop (p + 8) f)

put_in : (f : List Float) (k : ℕ) (r : Row) → k < length f / 8 → with_row f k r ≡ with f (8 * k) r
unfolding with_row
put_in f k r h =
    let fit : 8 * k + 8 ≤ length f = omega arith in
    let e2 : 8 * k + 2 ≡ suc (suc (8 * k)) = omega arith in
    let e3 : 8 * k + 3 ≡ suc (suc (suc (8 * k))) = omega arith in
    let e4 : 8 * k + 4 ≡ suc (suc (suc (suc (8 * k)))) = omega arith in
    let e5 : 8 * k + 5 ≡ suc (suc (suc (suc (suc (8 * k))))) = omega arith in
    let e6 : 8 * k + 6 ≡ suc (suc (suc (suc (suc (suc (8 * k)))))) = omega arith in
    let e7 : 8 * k + 7 ≡ suc (suc (suc (suc (suc (suc (suc (8 * k))))))) = omega arith in
    rw (lt-ltb k (length f / 8) h, add-one (8 * k), e2, e3, e4, e5, e6, e7)
    (sets-eq (eight r) f (8 * k) fit ∙ append_assoc (take (8 * k) f) (eight r) (drop (8 * k + 8) f))

pub put_out : (f : List Float) (k : ℕ) (r : Row) → length f / 8 ≤ k → with_row f k r ≡ f
unfolding with_row
put_out f k r h = rw (le-ltb k (length f / 8) h)

module _ (f : List Float) (p : ℕ) (r : Row) (fit : p + 8 ≤ length f) where
  inner : (d : ℕ) → get_or (with f p r) (p + d) nan ≡ get_or (eight r ++ drop (p + 8) f) d nan
  inner d =
      let e : length (take p f) ≡ p = length-take-le p f (omega arith) in
      ap (λ (i : ℕ). get_or (with f p r) (i + d) nan) (sym e) ∙ get_or-append-add (take p f)
      (eight r ++ drop (p + 8) f) d nan

  before : (j : ℕ) → j < p → get_or (with f p r) j nan ≡ get_or f j nan
  before j h =
      let e : length (take p f) ≡ p = length-take-le p f (omega arith) in
      get_or-append (take p f) (eight r ++ drop (p + 8) f) nan j (omega arith) ∙ get_or-take p f j nan h

  after : (j : ℕ) → get_or (with f p r) (p + 8 + j) nan ≡ get_or f (p + 8 + j) nan
  after j =
      let e : p + 8 + j ≡ p + (8 + j) = omega arith in
      ap (λ (i : ℕ). get_or (with f p r) i nan) e
      ∙ inner (8 + j)
      ∙ get_or-append-add (eight r) (drop (p + 8) f) j nan
      ∙ get_or-drop (p + 8) f j nan

  length_with : length (with f p r) ≡ length f
  length_with = simp (length-append, length-take, length-drop) (omega arith)

  outer : (j : ℕ) → (j < p) ⊎ (p + 8 ≤ j) → get_or (with f p r) j nan ≡ get_or f j nan
  outer j h =
      ⊎_elim (before j)
      (λ q.
      let e : p + 8 + (j - (p + 8)) ≡ j = omega arith in
      subst (λ (i : ℕ). get_or (with f p r) i nan ≡ get_or f i nan) e (after (j - (p + 8))))
      h

pub length_put_row : (f : List Float) (k : ℕ) (r : Row) → length (with_row f k r) ≡ length f
length_put_row f k r =
    ⊎_elim (λ h. rw (put_in f k r h) (length_with f (8 * k) r (omega arith))) (λ h. rw (put_out f k r h))
    (less_or k (length f / 8))

-- ---- a box put is read back, and no other changes
box_same : (f : List Float) (k : ℕ) (r : Row) → k < length f / 8 → table_box (with f (8 * k) r) k ≡ box_of_row r
box_same f k r h =
    let g = inner f (8 * k) r (omega arith) in
    rw (rw add-zero at (g 0), g 1, g 2, g 4, g 5, g 6)

box_other
    : (f : List Float) (k j : ℕ) (r : Row) → k < length f / 8 → (j ≡ k → ⊥)
    → table_box (with f (8 * k) r) j ≡ table_box f j
box_other f k j r h n =
    let g : (d : ℕ) → d < 8 → get_or (with f (8 * k) r) (8 * j + d) nan ≡ get_or f (8 * j + d) nan
    = λ d q. outer f (8 * k) r (omega arith) (8 * j + d)
    (⊎_elim (λ l. inl (omega arith)) (λ l. inr (omega (arith, ne l))) (less_or j k)) in
    rw (
      rw add-zero at (g 0 (omega arith)),
      g 1 (omega arith),
      g 2 (omega arith),
      g 4 (omega arith),
      g 5 (omega arith),
      g 6 (omega arith),
    )
  where
    ne : k ≤ j → k < j
    ne l = ⊎_elim (λ q. q) (λ q. absurd (n (omega arith))) (less_or k j)

pub rows_put : (f : List Float) (k : ℕ) (r : Row) → table_boxes (with_row f k r) ≡ set (table_boxes f) k (box_of_row r)
rows_put f k r =
    ⊎_elim inside (λ h. ap table_boxes (put_out f k r h) ∙ sym
    (set_out (table_boxes f) k (box_of_row r) (omega (arith, box_count f)))) (less_or k (length f / 8))
  where
    inside : k < length f / 8 → table_boxes (with_row f k r) ≡ set (table_boxes f) k (box_of_row r)
    inside h =
        let fit : 8 * k + 8 ≤ length f = omega arith in
        let w = with f (8 * k) r in
        let l : length w / 8 ≡ length f / 8 = ap (λ (n : ℕ). n / 8) (length_with f (8 * k) r fit) in
        ap table_boxes (put_in f k r h)
        ∙ ext_get_or no_box (table_boxes w) (set (table_boxes f) k (box_of_row r))
        (box_count w ∙ l ∙ sym (box_count f) ∙ sym (length-set (table_boxes f) k (box_of_row r)))
        (λ i q.
        let u : i < length f / 8 = omega (arith, box_count w) in
        box_here w i (omega arith)
        ∙ ⊎_elim
        (λ e. ap (table_box w) e ∙ box_same f k r h ∙ sym
        (ap (λ (j : ℕ). box_at (set (table_boxes f) k (box_of_row r)) j) e ∙ get_or-set_same (table_boxes f) k (box_of_row r) no_box
        (omega (arith, box_count f))))
        (λ n. box_other f k i r h n ∙ sym (get_or-set_other (table_boxes f) k i (box_of_row r) no_box n ∙ box_here f i u))
        (same_or i k))

-- ---- a box put
pub length_put_box : (f : List Float) (k : ℕ) (b : Aabb) → length (put_box f k b) ≡ length f
unfolding put_box
length_put_box f k b = length_put_row f k (row_for b)

pub boxes_put : (f : List Float) (k : ℕ) (b : Aabb) → table_boxes (put_box f k b) ≡ set (table_boxes f) k b
unfolding put_box
boxes_put f k b = rows_put f k (row_for b)
