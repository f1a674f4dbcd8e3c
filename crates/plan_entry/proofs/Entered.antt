-- An accepted record enters at the end of its list, and nothing else of the plan changes: no row that another record is
-- read from is written. Words only in what is said of a written table; the rest is of rows. Assumes nothing.
use Prim.Native.Nat.{ℕ, suc, ◌+◌, ◌-◌, ◌*◌, ◌<◌, ◌≤◌}
use mathlib.Core.Path.{◌≡◌, refl, sym, ◌∙◌, ap}
use mathlib.Core.Logic.{◌⊎◌, ⊎_elim, inl, inr}
use mathlib.Core.Bool.{Bool, true, false, true≢false, false≢true}
use mathlib.Core.List.{List}
use native.Mathlib.Numerals.{add-one}
use native.Mathlib.Omega.{arith}
use lib.ListN.{length, get_or, set}
use lib.Seq.{get_or-set_same, get_or-set_other}
use lib.Ieee.{Float}
use borrow.Author.Tests.{lt-ltb, le-leb}
use Rattle.words.specs.Lists.{list_from, All}
use Rattle.words.proofs.Runs.{from_snoc, length_from, All-from}
use Rattle.plan.specs.Sections.{materials, planes, lights, objects, args_row}
use Rattle.plan.specs.Records.{word_of, material_at, light_at, light_in, cutter_at, head_at}
use Rattle.plan.specs.Plan.{Piece, cuts_by, piece_at, pieces_from, count_of, plan_of, seen, plan_in}
use Rattle.plan.specs.With.{with_material, with_plane, with_light, with_object}
use Rattle.plan.proofs.Rows.{Alike, Kept, kept, material_same, light_same, materials_kept, lights_kept, pieces-Kept}
use Rattle.plan_test.specs.declared.Solids.{Solids}
use Rattle.record_test.specs.Numbers.{material_number, light_number}
use Rattle.plan_test.specs.Tests.{cutters_of, solids_of}
use Rattle.record_test.specs.Exact.{CutterOk}
use Rattle.plan_test.specs.Exact.{CountsOk, SoundSolids}
use Rattle.plan_test.proofs.Apart.{objects_reach, planes_reach}
use Rattle.plan_test.proofs.Exact.{counts_exact, solids_exact, solids_used}
use Rattle.plan_write.specs.Written.{arg_word, arg_cuts, piece_words, cutter_words}
use Rattle.plan_entry.specs.Entry.{piece_number, record_number}
use Rattle.plan_write.specs.Written.{first_word, record_words}
use Rattle.plan_write.specs.Written.{put_row, put_cutters, one_more, with_piece, with_material_words}
use Rattle.plan_entry.specs.Entry.{new_place}
use Rattle.plan_write.specs.Written.{with_light_words}
use Rattle.plan_entry.specs.After.{given_piece, with_one}
use Rattle.plan_write.proofs.Lists.{length_row, row_here, row_other, length_cutters, cutters_other}
use Rattle.plan_write.proofs.Lists.{cutters_here}
use Rattle.plan_entry.proofs.Given.{new_cutter, new_piece, new_record}
use Rattle.plan_entry.proofs.Accepts.{Accepted, accepted, taken}

one_more_lem : (n : ℕ) → n < 256 → one_more n ≡ suc n
unfolding one_more
one_more_lem n h = rw (lt-ltb n 256 h, add-one)

-- ---- what the plan of w says of its rows
record Few (w : List ℕ) : Type 0 where
  materials : count_of materials w ≤ 64
  planes : count_of planes w ≤ 16
  lights : count_of lights w ≤ 16
  objects : count_of objects w ≤ 256

few : (w : List ℕ) (f : List Float) → CountsOk (plan_of w f) → Few w
unfolding plan_of pieces_from
few w f c =
    record {
      materials = rw (length_from (material_at f) 1 (count_of materials w)) at c.materials;
      planes = rw (length_from (piece_at w f) 65 (count_of planes w)) at c.planes;
      lights = rw (length_from (light_in f) 0 (count_of lights w)) at c.lights;
      objects = rw (length_from (piece_at w f) 113 (count_of objects w)) at c.objects;
    }

module _ (w : List ℕ) (s : SoundSolids (plan_in w)) where
  -- the cutters of plane j lie from what the planes leave on
  plane_place
      : (j : ℕ)
      → j < count_of planes w
      → (1024 ≤ (head_at w (seen w) (65 + j)).place + cutters_of (plan_in w).planes)
      × ((head_at w (seen w) (65 + j)).place + (head_at w (seen w) (65 + j)).cutters ≤ 1024)
  unfolding plan_of pieces_from piece_at
  plane_place =
      let used : ℕ = cutters_of (plan_in w).planes in
      All-from
      (λ (o : Piece). (1024 ≤ o.head.place + used) × (o.head.place + o.head.cutters ≤ 1024))
      (piece_at w (seen w))
      65
      (count_of planes w)
      (planes_reach 0 used (plan_in w).planes s.planes.places (omega arith))

  -- the cutters of object j lie below what the objects use
  object_place
      : (j : ℕ)
      → j < count_of objects w
      → (head_at w (seen w) (113 + j)).place + (head_at w (seen w) (113 + j)).cutters ≤ cutters_of (plan_in w).objects
  unfolding plan_of pieces_from piece_at
  object_place =
      let used : ℕ = cutters_of (plan_in w).objects in
      All-from
      (λ (o : Piece). o.head.place + o.head.cutters ≤ used)
      (piece_at w (seen w))
      113
      (count_of objects w)
      (objects_reach 0 used (plan_in w).objects s.objects.places (omega arith))

-- ---- a table whose count c was set, and whose rows stay but for some
record Stays (w v : List ℕ) (c x : ℕ) (Row : ℕ → Type 0) : Type 0 where
  count : word_of v c ≡ x
  counts : (i : ℕ) → i < 16 → (i ≡ c → ⊥) → word_of v i ≡ word_of w i
  row : (r : ℕ) → 1 ≤ r → Row r → Kept v w r

abbrev Beside : ℕ → ℕ → Type 0
Beside row r = (r < row) ⊎ (row < r)

beside : (row r k : ℕ) → k < 16 → Beside row r → (16 * r + k < 16 * row) ⊎ (16 * row + 16 ≤ 16 * r + k)
beside row r k p (inl a) = inl (omega arith)
beside row r k p (inr a) = inr (omega arith)

-- ---- a piece
abbrev Apart : ℕ → ℕ → ℕ → ℕ → Type 0
Apart row place n r = Beside row r × ((r < 369 + place) ⊎ (369 + place + n ≤ r))

record Written (w v : List ℕ) (c x row place n : ℕ) : Type 0 where
  rest : Stays w v c x (Apart row place n)
  head : (k : ℕ) → k < 16 → word_of v (16 * row + k) ≡ get_or (piece_words w place) k 0
  cutter
      : (j k : ℕ)
      → j < n
      → k < 16
      → word_of v (16 * (369 + place + j) + k) ≡ get_or (cutter_words w (1394 + j)) k 0

module _ (w : List ℕ) (c x row place n : ℕ) (len : length w ≡ 27296) (lc : c < 16) (lr : 1 ≤ row) (hr : row < 369)
    (fit : place + n ≤ 1024) where
  abbrev cut : List ℕ
  cut = put_cutters w place n

  abbrev rows : List ℕ
  rows = put_row cut row (piece_words w place)

  length_cut : length cut ≡ 27296
  length_cut = length_cutters w place n ∙ len

  length_rows : length rows ≡ 27296
  length_rows = length_row cut row (piece_words w place) ∙ length_cut

  written : Written w (set rows c x) c x row place n
  written =
      record {
        rest =
            record {
              count = get_or-set_same rows c x 0 (omega (arith, length_rows));
              counts = λ i p q.
                  get_or-set_other rows c i x 0 q
                  ∙ row_other cut row (piece_words w place) i (omega arith) (inl (omega arith))
                  ∙ cutters_other w place n i (inl (omega arith));
              row = λ r l a.
                  kept (set rows c x) w r
                  (λ k p.
                  get_or-set_other rows c (16 * r + k) x 0 (λ e. omega arith)
                  ∙ row_other cut row (piece_words w place) (16 * r + k) (omega arith) (beside row r k p a.0)
                  ∙ cutters_other w place n (16 * r + k)
                  (⊎_elim (λ b. inl (omega arith)) (λ b. inr (omega arith)) a.1));
            };
        head = λ k p.
            get_or-set_other rows c (16 * row + k) x 0 (λ e. omega arith)
            ∙ row_here cut row (piece_words w place) k length_cut (omega arith) refl p;
        cutter = λ j k p q.
            get_or-set_other rows c (16 * (369 + place + j) + k) x 0 (λ e. omega arith)
            ∙ row_other cut row (piece_words w place) (16 * (369 + place + j) + k) (omega arith) (inr (omega arith))
            ∙ cutters_here w place n j k len fit p q;
      }

-- a cutter's kind is known
known_cutters
    : (w : List ℕ) (n : ℕ)
    → All CutterOk (cuts_by w (seen w) 1394 n)
    → (k : ℕ)
    → k < n
    → word_of w (16 * (1394 + k)) ≤ 6
unfolding cuts_by cutter_at
known_cutters w n a k p = (All-from CutterOk (cutter_at w (seen w)) 1394 n a k p).known

known_kind : (among : Bool) (w : List ℕ) → Accepted among w → arg_word w 3 ≤ 6
unfolding head_at
known_kind among w a = a.own.prim.known

module _ (w v : List ℕ) (c x row place : ℕ) (among : Bool) (s : SoundSolids (plan_in w)) (a : Accepted among w)
    (low : 65 ≤ row) (high : row < 369) (below : cutters_of (plan_in w).objects ≤ place)
    (above : place + arg_cuts w + cutters_of (plan_in w).planes ≤ 1024)
    (t : Written w v c x row place (arg_cuts w)) where
  abbrev n : ℕ
  n = arg_cuts w

  abbrev f : Few w
  f = few w (seen w) s.counts

  new : piece_at v (seen v) row ≡ given_piece w place
  new =
      let eight = a.few in
      new_piece v w row (omega arith) place (known_kind among w a) t.head
      (λ k p.
      new_cutter v w (369 + place + k) (omega arith) (1394 + k) (omega arith) (known_cutters w n a.cuts k p)
      (λ i q. t.cutter k i p q))

  planes_stay
      : ((j : ℕ) → j < count_of planes w → Beside row (65 + j))
      → pieces_from v (seen v) 65 (count_of planes w) ≡ pieces_from w (seen w) 65 (count_of planes w)
  planes_stay h =
      pieces-Kept v w 65 (count_of planes w)
      (λ j p. let m = f.planes in t.rest.row (65 + j) (omega arith) (h j p, inl (omega arith)))
      (λ j p k q.
      let at = (plane_place w s j p).0 in
      let r : ℕ = 369 + (head_at w (seen w) (65 + j)).place + k in
      t.rest.row r (omega arith) (inr (omega arith), inr (omega arith)))

  objects_stay
      : ((j : ℕ) → j < count_of objects w → Beside row (113 + j))
      → pieces_from v (seen v) 113 (count_of objects w) ≡ pieces_from w (seen w) 113 (count_of objects w)
  objects_stay h =
      pieces-Kept v w 113 (count_of objects w)
      (λ j p. let m = f.objects in t.rest.row (113 + j) (omega arith) (h j p, inl (omega arith)))
      (λ j p k q.
      let at = object_place w s j p in
      let r : ℕ = 369 + (head_at w (seen w) (113 + j)).place + k in
      t.rest.row r (omega arith) (inr (omega arith), inl (omega arith)))

  materials_stay
      : list_from (material_at (seen v)) 1 (count_of materials w) ≡ list_from (material_at (seen w)) 1
      (count_of materials w)
  materials_stay =
      materials_kept v w (count_of materials w)
      (λ j p. let m = f.materials in t.rest.row (1 + j) (omega arith) (inl (omega arith), inl (omega arith)))

  lights_stay
      : ((l : ℕ) → l < count_of lights w → Beside row (81 + 2 * l))
      → list_from (light_in (seen v)) 0 (count_of lights w) ≡ list_from (light_in (seen w)) 0 (count_of lights w)
  lights_stay h =
      lights_kept v w (count_of lights w)
      (λ l p. let m = f.lights in t.rest.row (81 + 2 * l) (omega arith) (h l p, inl (omega arith)))

  plane_entered
      : c ≡ 1
      → row ≡ 65 + count_of planes w
      → row < 81
      → x ≡ suc (count_of planes w)
      → plan_in v ≡ with_plane (plan_in w) (given_piece w place)
  unfolding plan_of pieces_from
  plane_entered ec er lower ex =
      let m : ℕ = count_of planes w in
      let e0 : word_of v 0 ≡ word_of w 0 = t.rest.counts 0 (omega arith) (λ e. omega arith) in
      let e1 : word_of v 1 ≡ suc m = ap (word_of v) (sym ec) ∙ t.rest.count ∙ ex in
      let e2 : word_of v 2 ≡ word_of w 2 = t.rest.counts 2 (omega arith) (λ e. omega arith) in
      let e3 : word_of v 3 ≡ word_of w 3 = t.rest.counts 3 (omega arith) (λ e. omega arith) in
      let own : piece_at v (seen v) (65 + m) ≡ given_piece w place = ap (piece_at v (seen v)) (sym er) ∙ new in
      rw (
        e0,
        e1,
        e2,
        e3,
        from_snoc (piece_at v (seen v)) 65 m,
        own,
        planes_stay (λ j p. inl (omega arith)),
        materials_stay,
        lights_stay (λ l p. inr (omega arith)),
        objects_stay (λ j p. inr (omega arith)),
      )

  object_entered
      : c ≡ 3
      → row ≡ 113 + count_of objects w
      → x ≡ suc (count_of objects w)
      → plan_in v ≡ with_object (plan_in w) (given_piece w place)
  unfolding plan_of pieces_from
  object_entered ec er ex =
      let m : ℕ = count_of objects w in
      let e0 : word_of v 0 ≡ word_of w 0 = t.rest.counts 0 (omega arith) (λ e. omega arith) in
      let e1 : word_of v 1 ≡ word_of w 1 = t.rest.counts 1 (omega arith) (λ e. omega arith) in
      let e2 : word_of v 2 ≡ word_of w 2 = t.rest.counts 2 (omega arith) (λ e. omega arith) in
      let e3 : word_of v 3 ≡ suc m = ap (word_of v) (sym ec) ∙ t.rest.count ∙ ex in
      let own : piece_at v (seen v) (113 + m) ≡ given_piece w place = ap (piece_at v (seen v)) (sym er) ∙ new in
      let few16 = f.planes in
      let few16' = f.lights in
      rw (
        e0,
        e1,
        e2,
        e3,
        from_snoc (piece_at v (seen v)) 113 m,
        own,
        objects_stay (λ j p. inl (omega arith)),
        materials_stay,
        lights_stay (λ l p. inl (omega arith)),
        planes_stay (λ j p. inl (omega arith)),
      )

-- ---- the place of a new piece
plane_at : (s : Solids) (n : ℕ) → new_place true s n ≡ 1024 - (s.planes + n)
unfolding new_place
plane_at s n = refl

object_at : (s : Solids) (n : ℕ) → s.objects ≤ 1024 → new_place false s n ≡ s.objects
unfolding new_place
object_at s n h = rw (le-leb s.objects 1024 h)

abbrev pub place_for : Bool → List ℕ → ℕ
place_for among w = new_place among (solids_of (plan_in w)) (arg_cuts w)

-- it leaves the old ones theirs
pub record Placed (among : Bool) (w : List ℕ) : Type 0 where
  pub below : cutters_of (plan_in w).objects ≤ place_for among w
  pub above : place_for among w + arg_cuts w + cutters_of (plan_in w).planes ≤ 1024
  pub plane : among ≡ true → place_for among w + (cutters_of (plan_in w).planes + arg_cuts w) ≡ 1024
  pub object : among ≡ false → place_for among w ≡ cutters_of (plan_in w).objects

pub placed_for : (among : Bool) (w : List ℕ) → Accepted among w → Placed among w
placed_for true w a =
    let u = solids_used (plan_in w) a.solids in
    let p = u.0 in
    let o = u.1 in
    let r = a.room in
    let e = plane_at (solids_of (plan_in w)) (arg_cuts w) in
    record {
      below = omega arith;
      above = omega arith;
      plane = λ _. omega arith;
      object = λ x. absurd
          (true≢false x);
    }
placed_for false w a =
    let u = solids_used (plan_in w) a.solids in
    let p = u.0 in
    let o = u.1 in
    let r = a.room in
    let e = object_at (solids_of (plan_in w)) (arg_cuts w) (omega arith) in
    record {
      below = omega arith;
      above = omega arith;
      plane = λ x. absurd
          (false≢true x);
      object = λ _. omega arith;
    }

pub piece_entered
    : (before : ℕ) (among : Bool) (w : List ℕ) (bytes : ℕ)
    → length w ≡ 27296
    → piece_number before among w (seen w) (solids_of (plan_in w)) bytes ≡ 0
    → plan_in (with_piece among w (place_for among w)) ≡ with_one among (plan_in w) (given_piece w (place_for among w))
unfolding with_piece
piece_entered before true w bytes len e =
    let a = accepted before true w bytes e in
    let s = (solids_exact (plan_in w)).0 a.solids in
    let m : ℕ = count_of planes w in
    let d = placed_for true w a in
    let h : m < 16 = a.count in
    let at : ℕ = place_for true w in
    let below = d.below in
    let above = d.above in
    let x : ℕ = one_more m in
    let row : ℕ = 65 + m in
    let t = written w 1 x row at (arg_cuts w) len (omega arith) (omega arith) (omega arith) (omega arith) in
    plane_entered w _ 1 x row at true s a (omega arith) (omega arith) below above t refl refl (omega arith)
    (one_more_lem m (omega arith))
piece_entered before false w bytes len e =
    let a = accepted before false w bytes e in
    let s = (solids_exact (plan_in w)).0 a.solids in
    let m : ℕ = count_of objects w in
    let d = placed_for false w a in
    let h : m < 256 = a.count in
    let at : ℕ = place_for false w in
    let below = d.below in
    let above = d.above in
    let x : ℕ = one_more m in
    let row : ℕ = 113 + m in
    let t = written w 3 x row at (arg_cuts w) len (omega arith) (omega arith) (omega arith) (omega arith) in
    object_entered w _ 3 x row at false s a (omega arith) (omega arith) below above t refl refl
    (one_more_lem m (omega arith))

-- ---- a material, or a light: planes, objects and cutters stand elsewhere
abbrev Solid : ℕ → Type 0
Solid r = ((65 ≤ r) × (r < 81)) ⊎ (113 ≤ r)

module _ (w v : List ℕ) (f : Few w) (solid : (r : ℕ) → Solid r → Kept v w r) where
  planes_keep : pieces_from v (seen v) 65 (count_of planes w) ≡ pieces_from w (seen w) 65 (count_of planes w)
  planes_keep =
      pieces-Kept v w 65 (count_of planes w)
      (λ j p. let m = f.planes in solid (65 + j) (inl (omega arith, omega arith)))
      (λ j p k q. solid (369 + (head_at w (seen w) (65 + j)).place + k) (inr (omega arith)))

  objects_keep : pieces_from v (seen v) 113 (count_of objects w) ≡ pieces_from w (seen w) 113 (count_of objects w)
  objects_keep =
      pieces-Kept v w 113 (count_of objects w)
      (λ j p. solid (113 + j) (inr (omega arith)))
      (λ j p k q. solid (369 + (head_at w (seen w) (113 + j)).place + k) (inr (omega arith)))

abbrev record_length : (w : List ℕ) (n : ℕ) → length (record_words w n) ≡ 16
record_length w n = length_from (first_word w n) 0 16

record MaterialWritten (w v : List ℕ) : Type 0 where
  rest : Stays w v 0 (one_more (count_of materials w)) (Beside (1 + count_of materials w))
  own : Alike 5 v w (seen v) (seen w) (1 + count_of materials w) args_row

module _ (w : List ℕ) (len : length w ≡ 27296) (few64 : count_of materials w < 64) where
  abbrev mrow : ℕ
  mrow = 1 + count_of materials w

  abbrev mrows : List ℕ
  mrows = put_row w mrow (record_words w 5)

  length_mrows : length mrows ≡ 27296
  length_mrows = length_row w mrow (record_words w 5) ∙ len

  material_written : MaterialWritten w (set mrows 0 (one_more (count_of materials w)))
  material_written =
      let x : ℕ = one_more (count_of materials w) in
      let l : length (record_words w 5) ≤ 16 = omega (arith, record_length w 5) in
      record {
        rest =
            record {
              count = get_or-set_same mrows 0 x 0 (omega (arith, length_mrows));
              counts = λ i p q.
                  get_or-set_other mrows 0 i x 0 q ∙ row_other w mrow (record_words w 5) i l (inl (omega arith));
              row = λ r g a.
                  kept (set mrows 0 x) w r
                  (λ k p.
                  get_or-set_other mrows 0 (16 * r + k) x 0 (λ e. omega arith)
                  ∙ row_other w mrow (record_words w 5) (16 * r + k) l (beside mrow r k p a));
            };
        own =
            new_record (set mrows 0 x) w mrow (omega arith) 5 (omega arith)
            (λ k p.
            get_or-set_other mrows 0 (16 * mrow + k) x 0 (λ e. omega arith)
            ∙ row_here w mrow (record_words w 5) k len (omega arith) (record_length w 5) p);
      }

material_more
    : (w v : List ℕ)
    → Few w
    → count_of materials w < 64
    → MaterialWritten w v
    → plan_in v ≡ with_material (plan_in w) (material_at (seen w) args_row)
unfolding plan_of
material_more w v f h t =
    let m : ℕ = count_of materials w in
    let s = t.rest in
    let e0 : word_of v 0 ≡ suc m = s.count ∙ one_more_lem m (omega arith) in
    let e1 : word_of v 1 ≡ word_of w 1 = s.counts 1 (omega arith) (λ e. omega arith) in
    let e2 : word_of v 2 ≡ word_of w 2 = s.counts 2 (omega arith) (λ e. omega arith) in
    let e3 : word_of v 3 ≡ word_of w 3 = s.counts 3 (omega arith) (λ e. omega arith) in
    let solid : (r : ℕ) → Solid r → Kept v w r
    = λ r a. s.row r (⊎_elim (λ p. omega arith) (λ p. omega arith) a)
    (⊎_elim (λ p. inr (omega arith)) (λ p. inr (omega arith)) a) in
    rw (
      e0,
      e1,
      e2,
      e3,
      from_snoc (material_at (seen v)) 1 m,
      material_same t.own (omega arith),
      materials_kept v w m (λ j p. s.row (1 + j) (omega arith) (inl (omega arith))),
      lights_kept v w (count_of lights w) (λ l p. s.row (81 + 2 * l) (omega arith) (inr (omega arith))),
      planes_keep w v f solid,
      objects_keep w v f solid,
    )

pub material_entered
    : (before : ℕ) (w : List ℕ)
    → length w ≡ 27296
    → record_number before (material_number (material_at (seen w) args_row)) materials w ≡ 0
    → plan_in (with_material_words w) ≡ with_material (plan_in w) (material_at (seen w) args_row)
unfolding with_material_words
material_entered before w len e =
    let t = taken before (material_number (material_at (seen w) args_row)) materials w e in
    let f = few w (seen w) ((counts_exact (plan_in w)).0 t.counts) in
    material_more w _ f t.count (material_written w len t.count)

record LightWritten (w v : List ℕ) : Type 0 where
  rest
      : Stays w v 2 (one_more (count_of lights w))
      (λ r. (r < 81 + 2 * count_of lights w) ⊎ (81 + 2 * count_of lights w + 1 < r))
  own : Alike 15 v w (seen v) (seen w) (81 + 2 * count_of lights w) args_row

module _ (w : List ℕ) (len : length w ≡ 27296) (few16 : count_of lights w < 16) where
  abbrev lrow : ℕ
  lrow = 81 + 2 * count_of lights w

  abbrev lrow1 : List ℕ
  lrow1 = put_row w lrow (record_words w 15)

  abbrev lrows : List ℕ
  lrows = put_row lrow1 (lrow + 1) (record_words w 0)

  length_lrows : length lrows ≡ 27296
  length_lrows = length_row lrow1 (lrow + 1) (record_words w 0) ∙ length_row w lrow (record_words w 15) ∙ len

  light_written : LightWritten w (set lrows 2 (one_more (count_of lights w)))
  light_written =
      let x : ℕ = one_more (count_of lights w) in
      let l : length (record_words w 15) ≤ 16 = omega (arith, record_length w 15) in
      let l' : length (record_words w 0) ≤ 16 = omega (arith, record_length w 0) in
      record {
        rest =
            record {
              count = get_or-set_same lrows 2 x 0 (omega (arith, length_lrows));
              counts = λ i p q.
                  get_or-set_other lrows 2 i x 0 q
                  ∙ row_other lrow1 (lrow + 1) (record_words w 0) i l' (inl (omega arith))
                  ∙ row_other w lrow (record_words w 15) i l (inl (omega arith));
              row = λ r g a.
                  kept (set lrows 2 x) w r
                  (λ k p.
                  get_or-set_other lrows 2 (16 * r + k) x 0 (λ e. omega arith)
                  ∙ row_other lrow1 (lrow + 1) (record_words w 0) (16 * r + k) l'
                  (⊎_elim (λ b. inl (omega arith)) (λ b. inr (omega arith)) a)
                  ∙ row_other w lrow (record_words w 15) (16 * r + k) l
                  (⊎_elim (λ b. inl (omega arith)) (λ b. inr (omega arith)) a));
            };
        own =
            new_record (set lrows 2 x) w lrow (omega arith) 15 (omega arith)
            (λ k p.
            get_or-set_other lrows 2 (16 * lrow + k) x 0 (λ e. omega arith)
            ∙ row_other lrow1 (lrow + 1) (record_words w 0) (16 * lrow + k) l' (inl (omega arith))
            ∙ row_here w lrow (record_words w 15) k len (omega arith) (record_length w 15) p);
      }

light_more
    : (w v : List ℕ)
    → Few w
    → count_of lights w < 16
    → LightWritten w v
    → plan_in v ≡ with_light (plan_in w) (light_at (seen w) args_row)
unfolding plan_of light_in
light_more w v f h t =
    let m : ℕ = count_of lights w in
    let s = t.rest in
    let e0 : word_of v 0 ≡ word_of w 0 = s.counts 0 (omega arith) (λ e. omega arith) in
    let e1 : word_of v 1 ≡ word_of w 1 = s.counts 1 (omega arith) (λ e. omega arith) in
    let e2 : word_of v 2 ≡ suc m = s.count ∙ one_more_lem m (omega arith) in
    let e3 : word_of v 3 ≡ word_of w 3 = s.counts 3 (omega arith) (λ e. omega arith) in
    let z : 0 + m ≡ m = omega arith in
    let solid : (r : ℕ) → Solid r → Kept v w r
    = λ r a. s.row r (⊎_elim (λ p. omega arith) (λ p. omega arith) a)
    (⊎_elim (λ p. inl (omega arith)) (λ p. inr (omega arith)) a) in
    rw (
      e0,
      e1,
      e2,
      e3,
      from_snoc (light_in (seen v)) 0 m,
      z,
      light_same t.own (omega arith),
      lights_kept v w m (λ l p. s.row (81 + 2 * l) (omega arith) (inl (omega arith))),
      materials_kept v w (count_of materials w)
          (λ j p. let few64 = f.materials in s.row (1 + j) (omega arith) (inl (omega arith))),
      planes_keep w v f solid,
      objects_keep w v f solid,
    )

pub light_entered
    : (before : ℕ) (w : List ℕ)
    → length w ≡ 27296
    → record_number before (light_number (light_at (seen w) args_row)) lights w ≡ 0
    → plan_in (with_light_words w) ≡ with_light (plan_in w) (light_at (seen w) args_row)
unfolding with_light_words
light_entered before w len e =
    let t = taken before (light_number (light_at (seen w) args_row)) lights w e in
    let f = few w (seen w) ((counts_exact (plan_in w)).0 t.counts) in
    light_more w _ f t.count (light_written w len t.count)

-- ---- other words after the plan
pub plan_relent
    : (w v : List ℕ)
    → SoundSolids (plan_in w)
    → ((i : ℕ) → i < 22288 → word_of v i ≡ word_of w i)
    → plan_in v ≡ plan_in w
unfolding plan_of
plan_relent w v s h =
    let f = few w (seen w) s.counts in
    let row : (r : ℕ) → r < 1393 → Kept v w r = λ r l. kept v w r (λ k p. h (16 * r + k) (omega arith)) in
    rw (
      h 0 (omega arith),
      h 1 (omega arith),
      h 2 (omega arith),
      h 3 (omega arith),
      materials_kept v w (count_of materials w) (λ j p. let m = f.materials in row (1 + j) (omega arith)),
      lights_kept v w (count_of lights w) (λ l p. let m = f.lights in row (81 + 2 * l) (omega arith)),
      pieces-Kept v w 65 (count_of planes w)
          (λ j p. let m = f.planes in row (65 + j) (omega arith))
          (λ j p k q.
          let at = (plane_place w s j p).1 in
          row (369 + (head_at w (seen w) (65 + j)).place + k) (omega arith)),
      pieces-Kept v w 113 (count_of objects w)
          (λ j p. let m = f.objects in row (113 + j) (omega arith))
          (λ j p k q.
          let at = object_place w s j p in
          let room = s.room in
          row (369 + (head_at w (seen w) (113 + j)).place + k) (omega arith)),
    )
