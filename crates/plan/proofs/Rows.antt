-- Rows whose words agree decode alike, and a plan's list stands where its rows do: each record reads the words of its
-- row alone, and a piece its cutters' rows. Assumes nothing.
use Prim.Native.Nat.{ℕ, ◌+◌, ◌*◌, ◌<◌, ◌≤◌}
use native.Mathlib.Nat.{add-zero}
use native.Mathlib.Omega.{arith}
use mathlib.Core.Path.{◌≡◌, sym, ◌∙◌, ap}
use mathlib.Core.Logic.{⊎_elim}
use mathlib.Core.List.{List}
use lib.Ieee.{Float, binary32, of_bits, nan}
use Rattle.words.specs.Lists.{list_from}
use Rattle.words.specs.Words.{float_at}
use Rattle.words.proofs.Runs.{from_same, get_d_from, get_d_past}
use Rattle.words.proofs.Laws.{less_or}
use Rattle.plan.specs.declared.Cutter.{Cutter}
use Rattle.plan.specs.Records.{word_of, float_of, vec_of, prim_of, material_at, light_at, light_in, cutter_at, head_at}
use Rattle.plan.specs.Plan.{cuts_by, piece_at, pieces_from, seen}

-- the first n words of row a of one table are those of row b of another, as words and as floats
pub record Alike (n : ℕ) (v w : List ℕ) (f g : List Float) (a b : ℕ) : Type 0 where
  pub word : (k : ℕ) → k < n → word_of v (16 * a + k) ≡ word_of w (16 * b + k)
  pub float : (k : ℕ) → k < n → float_of f (16 * a + k) ≡ float_of g (16 * b + k)

-- ---- a row's record
-- a cutter whose words start at i
abbrev cutter_from : List ℕ → List Float → ℕ → Cutter
cutter_from w f i = record { kind = word_of w i; shape = prim_of w f i }

module _ {n : ℕ} {v w : List ℕ} {f g : List Float} {a b : ℕ} (s : Alike n v w f g a b) where
  vec_same : (k : ℕ) → k + 2 < n → vec_of f (16 * a + k) ≡ vec_of g (16 * b + k)
  vec_same k h =
      let at : (r j : ℕ) → 16 * r + k + j ≡ 16 * r + (k + j) = λ r j. omega arith in
      rw (at a 1, at a 2, at b 1, at b 2)
      (rw (s.float k (omega arith), s.float (k + 1) (omega arith), s.float (k + 2) (omega arith)))

  prim_same : (k : ℕ) → k + 8 < n → prim_of v f (16 * a + k) ≡ prim_of w g (16 * b + k)
  prim_same k h =
      let at : (r j : ℕ) → 16 * r + k + j ≡ 16 * r + (k + j) = λ r j. omega arith in
      rw (at a 1, at a 2, at a 3, at a 4, at a 5, at a 6, at a 7, at a 8)
      (rw (at b 1, at b 2, at b 3, at b 4, at b 5, at b 6, at b 7, at b 8)
      (rw (
        s.word k (omega arith),
        s.float (k + 1) (omega arith),
        s.float (k + 2) (omega arith),
        s.float (k + 3) (omega arith),
        s.float (k + 4) (omega arith),
        s.float (k + 5) (omega arith),
        s.float (k + 6) (omega arith),
        s.float (k + 7) (omega arith),
        s.float (k + 8) (omega arith),
      )))

  pub material_same : 5 ≤ n → material_at f a ≡ material_at g b
  unfolding material_at
  material_same h = rw (vec_same 0 (omega arith), s.float 3 (omega arith), s.float 4 (omega arith))

  pub light_same : 15 ≤ n → light_at f a ≡ light_at g b
  unfolding light_at
  light_same h =
      rw (
        vec_same 0 (omega arith),
        vec_same 3 (omega arith),
        vec_same 6 (omega arith),
        vec_same 9 (omega arith),
        vec_same 12 (omega arith),
      )

  pub cutter_same : 9 ≤ n → cutter_at v f a ≡ cutter_at w g b
  unfolding cutter_at
  cutter_same h =
      let here : cutter_from v f (16 * a + 0) ≡ cutter_from w g (16 * b + 0)
      = rw (prim_same 0 (omega arith), s.word 0 (omega arith)) in
      ap (cutter_from v f) (sym (add-zero (16 * a))) ∙ here ∙ ap (cutter_from w g) (add-zero (16 * b))

  head_same : 13 ≤ n → head_at v f a ≡ head_at w g b
  unfolding head_at
  head_same h =
      let first : word_of v (16 * a) ≡ word_of w (16 * b)
      = ap (word_of v) (sym (add-zero (16 * a))) ∙ s.word 0 (omega arith) ∙ ap (word_of w) (add-zero (16 * b)) in
      rw (
        first,
        s.float 1 (omega arith),
        s.word 2 (omega arith),
        prim_same 3 (omega arith),
        s.word 3 (omega arith),
        s.word 12 (omega arith),
      )

-- ---- words seen as floats
pub float_of_lem : (w : List ℕ) (i : ℕ) → i < 27296 → float_of (seen w) i ≡ of_bits binary32 (word_of w i)
unfolding float_at
float_of_lem w i h =
    let z : 0 + i ≡ i = omega arith in
    get_d_from (float_at w) 0 27296 i nan h ∙ rw z

same_float : (v w : List ℕ) (i : ℕ) → word_of v i ≡ word_of w i → float_of (seen v) i ≡ float_of (seen w) i
same_float v w i e =
    ⊎_elim
    (λ h. rw (float_of_lem v i h, float_of_lem w i h, e))
    (λ h. rw (get_d_past (float_at v) 0 27296 i nan h, get_d_past (float_at w) 0 27296 i nan h))
    (less_or i 27296)

-- a row whose words are kept
abbrev pub Kept : List ℕ → List ℕ → ℕ → Type 0
Kept v w r = Alike 16 v w (seen v) (seen w) r r

pub kept
    : (v w : List ℕ) (r : ℕ) → ((k : ℕ) → k < 16 → word_of v (16 * r + k) ≡ word_of w (16 * r + k))
    → Kept v w r
kept v w r h = record { word = h; float = λ k p. same_float v w (16 * r + k) (h k p) }

-- a row whose first words are those of another
pub moved
    : (n : ℕ) (v w : List ℕ) (a b : ℕ)
    → n ≤ 16
    → a < 1706
    → b < 1706
    → ((k : ℕ) → k < n → word_of v (16 * a + k) ≡ word_of w (16 * b + k))
    → Alike n v w (seen v) (seen w) a b
moved n v w a b l ha hb h =
    record {
      word = h;
      float = λ k p.
          float_of_lem v (16 * a + k) (omega arith) ∙ rw (h k p) (sym (float_of_lem w (16 * b + k) (omega arith)));
    }

-- ---- a piece, and the lists of a plan
piece_same
    : (v w : List ℕ) (f g : List Float) (r : ℕ)
    → head_at v f r ≡ head_at w g r
    → ((k : ℕ) → k < (head_at w g r).cutters
    → cutter_at v f (369 + (head_at w g r).place + k) ≡ cutter_at w g (369 + (head_at w g r).place + k))
    → piece_at v f r ≡ piece_at w g r
unfolding piece_at cuts_by
piece_same v w f g r e h =
    let row : ℕ = 369 + (head_at w g r).place in
    rw (e, from_same (cutter_at v f) (cutter_at w g) row row (head_at w g r).cutters h)

module _ (v w : List ℕ) where
  pub materials_kept
      : (n : ℕ)
      → ((j : ℕ) → j < n → Kept v w (1 + j))
      → list_from (material_at (seen v)) 1 n ≡ list_from (material_at (seen w)) 1 n
  materials_kept n h =
      from_same (material_at (seen v)) (material_at (seen w)) 1 1 n (λ j p. material_same (h j p) (omega arith))

  pub lights_kept
      : (n : ℕ)
      → ((l : ℕ) → l < n → Kept v w (81 + 2 * l))
      → list_from (light_in (seen v)) 0 n ≡ list_from (light_in (seen w)) 0 n
  unfolding light_in
  lights_kept n h =
      let at : (l : ℕ) → 0 + l ≡ l = λ l. omega arith in
      from_same (light_in (seen v)) (light_in (seen w)) 0 0 n (λ l p. rw (at l) (light_same (h l p) (omega arith)))

  pub pieces-Kept
      : (r n : ℕ)
      → ((j : ℕ) → j < n → Kept v w (r + j))
      → ((j : ℕ) → j < n → (k : ℕ) → k < (head_at w (seen w) (r + j)).cutters
      → Kept v w (369 + (head_at w (seen w) (r + j)).place + k))
      → pieces_from v (seen v) r n ≡ pieces_from w (seen w) r n
  unfolding pieces_from
  pieces-Kept r n heads cutters =
      from_same (piece_at v (seen v)) (piece_at w (seen w)) r r n
      (λ j p.
      piece_same v w (seen v) (seen w) (r + j) (head_same (heads j p) (omega arith))
      (λ k q. cutter_same (cutters j p k q) (omega arith)))
