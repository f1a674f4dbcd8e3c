-- What the loops over pieces need at a turn, by induction on the list, and a plan's number of the words that the code
-- reads. Assumes nothing.
use Prim.Native.Nat.{ℕ, zero, suc, ◌+◌, ◌*◌, ◌≤◌, ◌<◌}
use native.Mathlib.Nat.{add-zero, zero-add, add_assoc}
use native.Mathlib.Numerals.{add-one}
use native.Mathlib.Omega.{arith}
use mathlib.Core.Path.{◌≡◌, refl, sym, ◌∙◌, ap}
use mathlib.Core.Bool.{Bool, true, false, cond, ◌&&◌, and-true, and_assoc, and-eq-true_iff}
use mathlib.Core.List.{List, [], ◌∷◌, ◌++◌}
use lib.Dec.{leb, eqb}
use lib.Ieee.{Float}
use borrow.Author.Tests.{eqb-true, leb-true, le-leb}
use mir.Syntax.{w64}
use mir.Val.{Fits}
use Rattle.words.specs.Lists.{list_from}
use Rattle.words.proofs.Runs.{from_snoc, length_from}
use Rattle.refusals.specs.Refusals.{no_room, lower, lowest_of}
use Rattle.refusals.proofs.Lowest.{lower_assoc, lowest_start, lowest_more}
use Rattle.plan.specs.declared.Head.{Head}
use Rattle.plan.specs.Sections.{materials, planes, lights, objects, cuts_most}
use Rattle.plan.specs.Records.{material_at, light_in, cutter_at, head_at}
use Rattle.plan.specs.Plan.{Piece, cuts_by, piece_at, pieces_from, count_of, plan_of, seen, plan_in}
use Rattle.plan_test.specs.declared.Tally.{Tally}
use Rattle.plan_test.specs.declared.Solids.{Solids}
use Rattle.record_test.specs.Numbers.{light_number, cutter_number, cuts_number, own_number, piece_own}
use Rattle.record_test.specs.Numbers.{piece_cuts}
use Rattle.plan_test.specs.Inside.Flat.{cuts_flat}
use Rattle.plan_test.specs.Tests.{counts_ok, cutters_of, place_ok, places_ok, tally_of, objects_number, solids_of}
use Rattle.plan_test.specs.Tests.{lit_number}

-- ---- counts do not depend on floats
pub counts_words
    : (w : List ℕ) (f : List Float)
    → counts_ok (plan_of w f)
    ≡ (leb (count_of materials w) 64
    && (leb (count_of planes w) 16 && (leb (count_of lights w) 16 && leb (count_of objects w) 256)))
unfolding counts_ok plan_of pieces_from
counts_words w f =
    rw (
      length_from (material_at f) materials.first (count_of materials w),
      length_from (piece_at w f) planes.first (count_of planes w),
      length_from (light_in f) 0 (count_of lights w),
      length_from (piece_at w f) objects.first (count_of objects w),
    )

counts_any : (w : List ℕ) (f g : List Float) → counts_ok (plan_of w f) ≡ counts_ok (plan_of w g)
counts_any w f g = counts_words w f ∙ sym (counts_words w g)

-- ---- one piece more at the end of a list
pub cutters_snoc : (os : List Piece) (o : Piece) → cutters_of (os ++ (o ∷ [])) ≡ cutters_of os + o.head.cutters
unfolding cutters_of
cutters_snoc [] o = omega arith
cutters_snoc (x ∷ os) o = rw (cutters_snoc os o) (omega arith)

placed_snoc
    : (among : Bool) (before : ℕ) (os : List Piece) (o : Piece)
    → places_ok among before (os ++ (o ∷ []))
    ≡ (places_ok among before os && place_ok among (before + cutters_of os) o.head)
unfolding places_ok cutters_of
placed_snoc among before [] o = rw (add-zero, and-true)
placed_snoc among before (x ∷ os) o =
    rw (placed_snoc among (before + x.head.cutters) os o, add_assoc before x.head.cutters (cutters_of os))
    (sym (and_assoc
    (place_ok among before x.head)
    (places_ok among (before + x.head.cutters) os)
    (place_ok among (before + (x.head.cutters + cutters_of os)) o.head)))

module _ (w : List ℕ) (f : List Float) (r : ℕ) where
  pub used_start : 0 ≡ cutters_of (pieces_from w f r 0)
  unfolding cutters_of pieces_from list_from
  used_start = refl

  pub used_more
      : (j : ℕ)
      → cutters_of (pieces_from w f r (j + 1)) ≡ cutters_of (pieces_from w f r j) + (head_at w f (r + j)).cutters
  unfolding pieces_from piece_at
  used_more j = rw (add-one, from_snoc (piece_at w f) r j, cutters_snoc)

  pub own_start : (among : Bool) (m : ℕ) → 0 ≡ lowest_of (piece_own among m) (pieces_from w f r 0)
  unfolding pieces_from
  own_start among m = lowest_start (piece_own among m) (piece_at w f) r

  pub own_more
      : (among : Bool) (m j : ℕ)
      → lowest_of (piece_own among m) (pieces_from w f r (j + 1))
      ≡ lower (lowest_of (piece_own among m) (pieces_from w f r j)) (own_number among m (head_at w f (r + j)))
  unfolding pieces_from piece_own piece_at
  own_more among m j = lowest_more (piece_own among m) (piece_at w f) r j

  pub placed_start : (among : Bool) → true ≡ places_ok among 0 (pieces_from w f r 0)
  unfolding places_ok pieces_from list_from
  placed_start among = refl

  pub placed_more
      : (among : Bool) (j : ℕ)
      → places_ok among 0 (pieces_from w f r (j + 1))
      ≡ (places_ok among 0 (pieces_from w f r j) && place_ok among (cutters_of (pieces_from w f r j)) (head_at w f (r + j)))
  unfolding pieces_from piece_at
  placed_more among j = rw (add-one, from_snoc (piece_at w f) r j, placed_snoc, zero-add)

-- a sum of j words, and of one more
pub sum_words : (used n j : ℕ) → used ≤ 4294967295 * j → n ≤ 4294967295 → used + n ≤ 4294967295 * (j + 1)
sum_words used n j h k = omega arith

pub sum_fits
    : (used n j : ℕ) → used ≤ 4294967295 * j → j < 4294967295 → n ≤ 4294967295 → Fits w64 (used + n)
sum_fits used n j h l k = record { fits = omega arith }

-- ---- objects' cutters stand one after the other
module _ {A : Type 0} (number : A → ℕ) (g : ℕ → A) where
  lowest_split
      : (a c m : ℕ)
      → lowest_of number (list_from g a (c + m))
      ≡ lower (lowest_of number (list_from g a c)) (lowest_of number (list_from g (a + c) m))
  unfolding lowest_of list_from lower
  lowest_split a zero m = rw (add-zero, zero-add)
  lowest_split a (suc c) m =
      let e : suc c + m ≡ suc (c + m) = omega arith in
      let i : a + suc c ≡ suc a + c = omega arith in
      rw (e, i, lowest_split (suc a) c m)
      (lower_assoc (number (g a)) (lowest_of number (list_from g (suc a) c)) (lowest_of number (list_from g (suc a + c) m)))

place_before : (before : ℕ) (h : Head) → place_ok false before h ≡ true → h.place ≡ before
unfolding place_ok
place_before before h e =
    eqb-true h.place before ((and-eq-true_iff (leb h.cutters cuts_most) (eqb h.place before)).0 e).1

flat_from
    : (w : List ℕ) (f : List Float) (n r before : ℕ) → places_ok false before (list_from (piece_at w f) r n) ≡ true
    → lowest_of piece_cuts (list_from (piece_at w f) r n)
    ≡ lowest_of cutter_number (list_from (cutter_at w f) (369 + before) (cutters_of (list_from (piece_at w f) r n)))
unfolding list_from places_ok cutters_of lowest_of piece_cuts cuts_number cuts_by piece_at
flat_from w f zero r before h = refl
flat_from w f (suc n) r before h =
    let o : Head = head_at w f r in
    let rest : List Piece = list_from (piece_at w f) (suc r) n in
    let p = (and-eq-true_iff (place_ok false before o) (places_ok false (before + o.cutters) rest)).0 h in
    let here : (head_at w f r).place ≡ before = place_before before o p.0 in
    let e : 369 + (before + o.cutters) ≡ 369 + before + o.cutters = omega arith in
    let more = flat_from w f n (suc r) (before + o.cutters) p.1 in
    rw (lowest_split cutter_number (cutter_at w f) (369 + before) o.cutters (cutters_of rest), here, more, e)

-- all objects' cutters as one list
flat_objects
    : (w : List ℕ) (f : List Float) (r n used : ℕ) (placed : Bool) → used ≡ cutters_of (pieces_from w f r n)
    → (placed ≡ true → (places_ok false 0 (pieces_from w f r n) ≡ true) × (leb used 1024 ≡ true))
    → cuts_flat w f placed used ≡ cond placed (lowest_of piece_cuts (pieces_from w f r n)) no_room
unfolding pieces_from cuts_number cuts_by
flat_objects w f r n used true e h =
    rw ((h refl).1, e) (sym (flat_from w f n r 0 (h refl).0))
flat_objects w f r n used false e h = refl

-- ---- a plan's number, of the words that the code reads
-- cutters that are judged in one place are judged in both
lower_cond : (b : Bool) (m n : ℕ) → cond b (lower m n) no_room ≡ lower (cond b m no_room) (cond b n no_room)
unfolding lower
lower_cond true m n = refl
lower_cond false m n = refl

module _ (w : List ℕ) (f : List Float) where
  abbrev planes_in : List Piece
  planes_in = pieces_from w f planes.first (count_of planes w)

  abbrev objects_in : List Piece
  objects_in = pieces_from w f objects.first (count_of objects w)

  abbrev tallied : Bool → List Piece → Tally
  tallied among os = tally_of among (count_of materials w) os

  abbrev all_placed : Bool
  all_placed =
      (tallied true planes_in).placed
      && ((tallied false objects_in).placed && leb ((tallied true planes_in).used + (tallied false objects_in).used) 1024)

  pub objects_words
      : objects_number (plan_of w f)
      ≡ cond (counts_ok (plan_in w))
      (lower (tallied false objects_in).number
      (cond ((tallied false objects_in).placed && leb (tallied false objects_in).used 1024)
      (lowest_of piece_cuts objects_in)
      no_room))
      no_room
  unfolding objects_number plan_of
  objects_words = rw (counts_any w f (seen w), length_from (material_at f) materials.first (count_of materials w))

  -- the same, as the code has it
  pub objects_flat
      : objects_number (plan_of w f)
      ≡ cond (counts_ok (plan_in w))
      (lower (tallied false objects_in).number
      (cuts_flat w f ((tallied false objects_in).placed && leb (tallied false objects_in).used 1024)
      (tallied false objects_in).used))
      no_room
  unfolding tally_of
  objects_flat =
      rw (flat_objects w f objects.first (count_of objects w) (cutters_of objects_in)
      (places_ok false 0 objects_in && leb (cutters_of objects_in) 1024) refl
      (λ e. (and-eq-true_iff (places_ok false 0 objects_in) (leb (cutters_of objects_in) 1024)).0 e))
      objects_words

  -- among planes and objects
  pub solids_flat
      : {p o : Tally} {fit some placed : Bool} {b : ℕ}
      → p ≡ tallied true planes_in
      → o ≡ tallied false objects_in
      → fit ≡ leb (p.used + o.used) 1024
      → some ≡ (o.placed && fit)
      → placed ≡ (p.placed && some)
      → b ≡ cuts_flat w f placed o.used
      → b ≡ cond placed (lowest_of piece_cuts objects_in) no_room
  unfolding tally_of
  solids_flat {p} {o} {fit} {some} {placed} {b} ep eo ef es el eb =
      let good : placed ≡ true → (places_ok false 0 objects_in ≡ true) × (leb o.used 1024 ≡ true) =
      λ t.
      let q = (and-eq-true_iff o.placed fit).0
      (sym es ∙ ((and-eq-true_iff p.placed some).0 (sym el ∙ t)).1) in
      let le = leb-true (p.used + o.used) 1024 (sym ef ∙ q.1) in
      (sym (ap (λ (x : Tally). x.placed) eo) ∙ q.0, le-leb o.used 1024 (omega arith)) in
      eb ∙ flat_objects w f objects.first (count_of objects w) o.used placed (ap (λ (x : Tally). x.used) eo) good

  abbrev solids_in : Solids
  solids_in =
      record {
        number =
            lower (lower (tallied true planes_in).number (tallied false objects_in).number)
            (lower
            (cond all_placed (lowest_of piece_cuts planes_in) no_room)
            (cond all_placed (lowest_of piece_cuts objects_in) no_room));
        planes = (tallied true planes_in).used;
        objects = (tallied false objects_in).used;
      }

  pub solids_words
      : solids_of (plan_of w f)
      ≡ cond (counts_ok (plan_in w)) solids_in (record { number = no_room; planes = 0; objects = 0 })
  unfolding solids_of plan_of
  solids_words =
      rw (
        counts_any w f (seen w),
        length_from (material_at f) materials.first (count_of materials w),
        lower_cond all_placed (lowest_of piece_cuts planes_in) (lowest_of piece_cuts objects_in),
      )

  -- as the code computes it, call by call
  pub solids_made
      : {p o : Tally} {fit some placed : Bool} {a b cuts own number : ℕ}
      → p ≡ tallied true planes_in
      → o ≡ tallied false objects_in
      → fit ≡ leb (p.used + o.used) 1024
      → some ≡ (o.placed && fit)
      → placed ≡ (p.placed && some)
      → a ≡ cond placed (lowest_of piece_cuts planes_in) no_room
      → b ≡ cond placed (lowest_of piece_cuts objects_in) no_room
      → cuts ≡ lower a b
      → own ≡ lower p.number o.number
      → number ≡ lower own cuts
      → ◌≡◌ {A = Solids} (record { number = number; planes = p.used; objects = o.used }) solids_in
  solids_made p o fit some placed a b cuts own number = rw (number, own, cuts, a, b, placed, some, fit, p, o)

  pub lit_words
      : lit_number (plan_of w f)
      ≡ cond (counts_ok (plan_in w))
      (lower (solids_of (plan_of w f)).number (lowest_of light_number (list_from (light_in f) 0 (count_of lights w))))
      no_room
  unfolding lit_number plan_of
  lit_words = rw (counts_any w f (seen w))
