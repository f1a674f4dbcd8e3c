-- What a loop over cutters or pieces needs, by induction on the list, and what lies past a table's last row, by its
-- length. Assumes nothing.
use Prim.Native.Nat.{ℕ, ◌+◌, ◌*◌, ◌≤◌}
use mathlib.Core.Path.{◌≡◌, refl}
use mathlib.Core.List.{List, [], ◌∷◌, ◌++◌}
use native.Mathlib.Nat.{le_of_eq}
use native.Mathlib.Numerals.{add-one}
use native.Mathlib.Omega.{arith}
use lib.ListN.{length}
use lib.Ieee.{Float, nan}
use Rattle.vectors.specs.declared.Vec3.{Vec3}
use Rattle.refusals.specs.Prims.{shape_of}
use Rattle.words.specs.Lists.{list_from}
use Rattle.words.proofs.Laws.{past_end}
use Rattle.words.proofs.Runs.{from_snoc}
use Rattle.plan.specs.declared.Cutter.{Cutter}
use Rattle.plan.specs.declared.Head.{Head}
use Rattle.plan.specs.declared.DistHit.{DistHit}
use Rattle.plan.specs.Records.{word_of, float_of, vec_of, no_vec, cutter_at, head_at}
use Rattle.plan.specs.Inside.None.{no_shape, no_head}
use Rattle.plan.specs.Inside.Rows.{shape_in}
use Rattle.plan.specs.Plan.{Cuts, Piece, cuts_by, piece_at, pieces_from}
use Rattle.plan.specs.Nearest.{cut_by, carve, hit_of, closer, nearest}

-- one more at the end is one more step
carve_snoc
    : (cs : Cuts) (c : Cutter) (p : Vec3) (d : Float) → carve (cs ++ (c ∷ [])) p d ≡ cut_by c p (carve cs p d)
unfolding carve
carve_snoc [] c p d = refl
carve_snoc (x ∷ cs) c p d = carve_snoc cs c p (cut_by x p d)

pub nearest_snoc
    : (os : List Piece) (o : Piece) (p : Vec3) (best : DistHit)
    → nearest (os ++ (o ∷ [])) p best ≡ closer (nearest os p best) (hit_of o p)
unfolding nearest
nearest_snoc [] o p best = refl
nearest_snoc (x ∷ os) o p best = nearest_snoc os o p (closer best (hit_of x p))

-- a head whose words start at i
abbrev pub row_head : List ℕ → List Float → ℕ → Head
row_head w f i =
    record {
      material = word_of w i;
      blend = float_of f (i + 1);
      cutters = word_of w (i + 2);
      kind = word_of w (i + 3);
      shape =
          shape_of (word_of w (i + 3))
          (record { x = float_of f (i + 4); y = float_of f (i + 5); z = float_of f (i + 6) })
          (record { x = float_of f (i + 7); y = float_of f (i + 8); z = float_of f (i + 9) })
          (float_of f (i + 10))
          (float_of f (i + 11));
      place = word_of w (i + 12);
    }

module _ (w : List ℕ) (f : List Float) where
  pub carve_none : (r : ℕ) (p : Vec3) (d : Float) → d ≡ carve (cuts_by w f r 0) p d
  unfolding cuts_by list_from carve
  carve_none r p d = refl

  pub carve_more
      : (r j : ℕ) (p : Vec3) (d : Float)
      → carve (cuts_by w f r (j + 1)) p d ≡ cut_by (cutter_at w f (r + j)) p (carve (cuts_by w f r j) p d)
  unfolding cuts_by
  carve_more r j p d = rw (add-one, from_snoc (cutter_at w f) r j, carve_snoc)

  pub nearest_none : (r : ℕ) (p : Vec3) (best : DistHit) → best ≡ nearest (pieces_from w f r 0) p best
  unfolding pieces_from list_from nearest
  nearest_none r p best = refl

  pub nearest_more
      : (r j : ℕ) (p : Vec3) (best : DistHit)
      → nearest (pieces_from w f r (j + 1)) p best ≡ closer (nearest (pieces_from w f r j) p best)
      (hit_of (piece_at w f (r + j)) p)
  unfolding pieces_from
  nearest_more r j p best = rw (add-one, from_snoc (piece_at w f) r j, nearest_snoc)

  -- a row's places counted from its first, as the code reads them
  pub head_row : (r : ℕ) → head_at w f r ≡ row_head w f (16 * r)
  unfolding head_at
  head_row r =
      let at : (k : ℕ) → 16 * r + 3 + k ≡ 16 * r + (3 + k) = λ k. omega arith in
      rw (at 1, at 2, at 3, at 4, at 5, at 6, at 7, at 8)

-- a shape by the place of its floats, in a piece's row and in a cutter's
pub head_shape
    : (w : List ℕ) (f : List Float) (i : ℕ) → shape_in (word_of w (i + 3)) f (i + 4) ≡ (row_head w f i).shape
head_shape w f i =
    let at : (k : ℕ) → i + 4 + k ≡ i + (4 + k) = λ k. omega arith in
    rw (at 1, at 2, at 3, at 4, at 5, at 6, at 7)

pub cutter_shape
    : (w : List ℕ) (f : List Float) (r : ℕ) → shape_in (word_of w (16 * r)) f (16 * r + 1) ≡ (cutter_at w f r).shape
unfolding cutter_at
cutter_shape w f r =
    let at : (k : ℕ) → 16 * r + 1 + k ≡ 16 * r + (1 + k) = λ k. omega arith in
    rw (at 1, at 2, at 3, at 4, at 5, at 6, at 7)

-- past the last row
pub vec_past : (f : List Float) → length f ≡ 27296 → (r k : ℕ) → 1706 ≤ r → vec_of f (16 * r + k) ≡ no_vec
vec_past f l r k h =
    let i : ℕ = 16 * r + k in
    let q = le_of_eq l in
    rw (
      past_end f nan 27296 i q (omega arith),
      past_end f nan 27296 (i + 1) q (omega arith),
      past_end f nan 27296 (i + 2) q (omega arith),
    )

module _ (w : List ℕ) (f : List Float) (lw : length w ≡ 27296) (lf : length f ≡ 27296) where
  pub cutter_past : (r : ℕ) → 1706 ≤ r → cutter_at w f r ≡ record { kind = 0; shape = no_shape }
  unfolding cutter_at
  cutter_past r h =
      let i : ℕ = 16 * r in
      let qw = le_of_eq lw in
      let qf = le_of_eq lf in
      rw (
        past_end w 0 27296 i qw (omega arith),
        past_end f nan 27296 (i + 1) qf (omega arith),
        past_end f nan 27296 (i + 2) qf (omega arith),
        past_end f nan 27296 (i + 3) qf (omega arith),
        past_end f nan 27296 (i + 4) qf (omega arith),
        past_end f nan 27296 (i + 5) qf (omega arith),
        past_end f nan 27296 (i + 6) qf (omega arith),
        past_end f nan 27296 (i + 7) qf (omega arith),
        past_end f nan 27296 (i + 8) qf (omega arith),
      )

  pub head_past : (r : ℕ) → 1706 ≤ r → head_at w f r ≡ no_head
  unfolding head_at
  head_past r h =
      let i : ℕ = 16 * r in
      let qw = le_of_eq lw in
      let qf = le_of_eq lf in
      rw (
        past_end w 0 27296 i qw (omega arith),
        past_end w 0 27296 (i + 2) qw (omega arith),
        past_end w 0 27296 (i + 3) qw (omega arith),
        past_end w 0 27296 (i + 12) qw (omega arith),
        past_end f nan 27296 (i + 1) qf (omega arith),
        past_end f nan 27296 (i + 3 + 1) qf (omega arith),
        past_end f nan 27296 (i + 3 + 2) qf (omega arith),
        past_end f nan 27296 (i + 3 + 3) qf (omega arith),
        past_end f nan 27296 (i + 3 + 4) qf (omega arith),
        past_end f nan 27296 (i + 3 + 5) qf (omega arith),
        past_end f nan 27296 (i + 3 + 6) qf (omega arith),
        past_end f nan 27296 (i + 3 + 7) qf (omega arith),
        past_end f nan 27296 (i + 3 + 8) qf (omega arith),
      )
