-- The boxes of a plan's objects: how many, and of a table's plan the box at a place and past the last, by the laws of
-- lists made of a function. Assumes nothing.
use Prim.Native.Nat.{ℕ, zero, suc, ◌+◌, ◌<◌, ◌≤◌}
use mathlib.Core.Path.{◌≡◌, refl, ap}
use mathlib.Core.List.{List, ◌∷◌, map}
use lib.ListN.{length, length-map}
use lib.Ieee.{Float}
use Rattle.sdf.specs.declared.Aabb.{Aabb}
use Rattle.words.specs.Lists.{list_from}
use Rattle.words.proofs.Runs.{get_d_from, get_d_past, length_from}
use Rattle.plan.specs.Sections.{objects}
use Rattle.plan.specs.Plan.{Plan, Piece, piece_at, pieces_from, count_of, plan_of}
use Rattle.bvh_boxes.specs.Boxes.{object_box, boxes_of, box_at, no_box}

pub boxes_length : (p : Plan) → length (boxes_of p) ≡ length p.objects
unfolding boxes_of
boxes_length p = length-map p.objects object_box

map_from : (g : ℕ → Piece) (a n : ℕ) → map object_box (list_from g a n) ≡ list_from (λ i. object_box (g i)) a n
unfolding list_from
map_from g a zero = refl
map_from g a (suc n) = ap (λ (l : List Aabb). object_box (g a) ∷ l) (map_from g (suc a) n)

-- the box of the piece in row r
abbrev pub row_box : List ℕ → List Float → ℕ → Aabb
row_box w f r = object_box (piece_at w f r)

module _ (w : List ℕ) (f : List Float) where
  pub boxes_rows : boxes_of (plan_of w f) ≡ list_from (row_box w f) objects.first (count_of objects w)
  unfolding boxes_of plan_of pieces_from
  boxes_rows = map_from (piece_at w f) objects.first (count_of objects w)

  pub box_count : length (boxes_of (plan_of w f)) ≡ count_of objects w
  box_count = rw boxes_rows (length_from (row_box w f) objects.first (count_of objects w))

  pub box_here
      : (o : ℕ) → o < count_of objects w → box_at (boxes_of (plan_of w f)) o ≡ row_box w f (objects.first + o)
  box_here o h = rw boxes_rows (get_d_from (row_box w f) objects.first (count_of objects w) o no_box h)

  pub box_past : (o : ℕ) → count_of objects w ≤ o → box_at (boxes_of (plan_of w f)) o ≡ no_box
  box_past o h = rw boxes_rows (get_d_past (row_box w f) objects.first (count_of objects w) o no_box h)
