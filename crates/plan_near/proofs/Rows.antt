-- The hit of a piece by the words of its row, and that what lies past the last row is never nearest and cuts nothing:
-- its distance is no number. Assumes nothing.
use mathlib.Core.Path.{◌≡◌, refl, sym, ap, subst, ◌∙◌}
use mathlib.Core.Bool.{true, false, cond}
use mathlib.Core.List.{List}
use Prim.Native.Nat.{ℕ, ◌+◌, ◌*◌, ◌<◌, ◌≤◌}
use native.Mathlib.Omega.{arith}
use lib.Dec.{T}
use native.Mathlib.Decide.{dec_le}
use lib.ListN.{length}
use lib.Ieee.{Float, nan, inf, fin, binary32, add, sub, neg, lt, le, eq}
use Rattle.scalar.specs.Extremes.{fmax}
use Rattle.vectors.specs.declared.Vec3.{Vec3}
use Rattle.vectors.specs.Vec.{vsub, vdot, vlength}
use Rattle.sdf.specs.declared.Shape.{Shape}
use Rattle.sdf.specs.Shapes.{sphere, plane, dist_of}
use Rattle.float_order.specs.Inside.Order.{number}
use Rattle.float_order.proofs.Order.{yes_of}
use Rattle.sdf_near.specs.Inside.Near.{Near}
use Rattle.refusals.specs.Prims.{shape_of}
use Rattle.words.specs.Lists.{list_from}
use Rattle.plan.specs.declared.DistHit.{DistHit}
use Rattle.plan.specs.Records.{word_of, float_of, no_vec, cutter_at}
use Rattle.plan.specs.Inside.None.{no_shape}
use Rattle.plan.specs.Inside.Rows.{shape_in}
use Rattle.plan.specs.Plan.{cuts_by, piece_at}
use Rattle.plan.specs.Nearest.{cut_by, carve, piece_dist, hit_of, closer}
use Rattle.plan.proofs.Lists.{row_head, head_row, head_shape, cutter_shape, head_past, cutter_past}
use Rattle.plan_near.proofs.Near.{near_far, near_is, cut_near, no_closer, passed, choice}

-- a piece's distance and material by its row
pub dist_row
    : (w : List ℕ) (f : List Float) (r : ℕ) (p : Vec3)
    → piece_dist (piece_at w f r) p
    ≡ carve (cuts_by w f (369 + word_of w (16 * r + 12)) (word_of w (16 * r + 2))) p (dist_of (row_head w f (16 * r)).shape p)
unfolding piece_dist piece_at
dist_row w f r p = rw (head_row w f r)

mat_row : (w : List ℕ) (f : List Float) (r : ℕ) → (piece_at w f r).head.material ≡ word_of w (16 * r)
unfolding piece_at
mat_row w f r = rw (head_row w f r)

pub cut_row
    : (w : List ℕ) (f : List Float) (r : ℕ) (p : Vec3) (left t d : Float)
    → Near t (dist_of (shape_in (word_of w (16 * r)) f (16 * r + 1)) p) d → (T (number t) → T (lt (neg left) t))
    → fmax left (neg d) ≡ cut_by (cutter_at w f r) p left
unfolding cut_by
cut_row w f r p left t d n g =
    cut_near left t (dist_of (shape_in (word_of w (16 * r)) f (16 * r + 1)) p) d n g
    ∙ ap (λ (s : Shape). fmax left (neg (dist_of s p))) (cutter_shape w f r)

-- ---- a piece against the bound t: its primitive's distance worked out as `whole`, with its cutters as d
module _ (w : List ℕ) (f : List Float) (r : ℕ) (p : Vec3) (t whole : Float)
    (o : Near t (dist_of (shape_in (word_of w (16 * r + 3)) f (16 * r + 4)) p) whole) where
  n : Near t (dist_of (row_head w f (16 * r)).shape p) whole
  n = subst (λ (s : Shape). Near t (dist_of s p) whole) (head_shape w f (16 * r)) o

  pub row_passed : le t whole ≡ true → T (le t (piece_dist (piece_at w f r) p))
  unfolding piece_at
  row_passed e =
      passed (piece_at w f r) p t (rw (head_row w f r)
      (near_far t (dist_of (row_head w f (16 * r)).shape p) whole n (yes_of e)))

  pub row_carved
      : le t whole ≡ false → (d : Float)
      → Near t (carve (cuts_by w f (369 + word_of w (16 * r + 12)) (word_of w (16 * r + 2))) p whole) d
      → Near t (piece_dist (piece_at w f r) p) d
  row_carved e d k =
      rw (dist_row w f r p)
      (subst
      (λ (z : Float). Near t (carve (cuts_by w f (369 + word_of w (16 * r + 12)) (word_of w (16 * r + 2))) p z) d)
      (near_is t (dist_of (row_head w f (16 * r)).shape p) whole n e) k)

-- ---- a plane that nothing cuts
pub plane_row
    : (w : List ℕ) (f : List Float) (r : ℕ) (p : Vec3) → word_of w (16 * r + 3) ≡ 2 → word_of w (16 * r + 2) ≡ 0
    → (o : Float)
    → o ≡ vdot p (record { x = float_of f (16 * r + 4); y = float_of f (16 * r + 5); z = float_of f (16 * r + 6) })
    → sub binary32 o (float_of f (16 * r + 7)) ≡ piece_dist (piece_at w f r) p
unfolding cuts_by list_from carve dist_of plane shape_of
plane_row w f r p kind none o dot = rw (dist_row w f r p, none, kind, dot)

-- ---- past the last row
minus_nan : (x : Float) → sub binary32 x nan ≡ nan
unfolding sub add neg
minus_nan nan = refl
minus_nan (inf s) = refl
minus_nan (fin s m e) = refl

no_dist : (p : Vec3) → dist_of no_shape p ≡ nan
unfolding dist_of sphere shape_of
no_dist p = minus_nan (vlength (vsub p no_vec))

no_less : (x : Float) → lt nan x ≡ false
unfolding lt
no_less nan = refl
no_less (inf s) = refl
no_less (fin s m e) = refl

no_cut : (x : Float) → fmax x (neg nan) ≡ x
unfolding fmax neg lt eq
no_cut x = refl

module _ (w : List ℕ) (f : List Float) (lw : length w ≡ 27296) (lf : length f ≡ 27296) (r : ℕ) (h : 1706 ≤ r) where
  pub piece_past : (p : Vec3) (best : DistHit) → closer best (hit_of (piece_at w f r) p) ≡ best
  unfolding hit_of piece_dist piece_at cuts_by list_from carve
  piece_past p best =
      no_closer best (hit_of (piece_at w f r) p)
      (rw (head_past w f lw lf r h, no_dist p) (no_less best.d))

  pub cutter_none : (p : Vec3) (left : Float) → cut_by (cutter_at w f r) p left ≡ left
  unfolding cut_by
  cutter_none p left = rw (cutter_past w f lw lf r h, no_dist p) (no_cut left)

-- ---- the nearer of the best hit and the piece in row r, whether there is one or not
pub row_nearer
    : (w : List ℕ) (f : List Float) → length w ≡ 27296 → length f ≡ 27296 → (r : ℕ) (p : Vec3) (best : DistHit)
    → (d : Float) → (r < 1706 → Near best.d (piece_dist (piece_at w f r) p) d) → (h : DistHit)
    → (r < 1706 → h ≡ cond (lt d best.d) (record { d = d; mat = word_of w (16 * r) }) best) × (1706 ≤ r → h ≡ best)
    → h ≡ closer best (hit_of (piece_at w f r) p)
row_nearer w f lw lf r p best d n h q =
    elim (dec_le 1706 r) [
      | yes g ↦ q.1 g ∙ sym (piece_past w f lw lf r g p best)
      | no g ↦
          let k : r < 1706 = omega (arith, g) in
          q.0 k
          ∙ ap (λ (m : ℕ). cond (lt d best.d) (record { d = d; mat = m }) best) (sym (mat_row w f r))
          ∙ choice (piece_at w f r) p best d (n k)
    ]
