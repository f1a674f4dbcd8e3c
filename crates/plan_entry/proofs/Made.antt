-- A plan made by entries is sound, lights too: the empty one is, and each accepted entry leaves it so. By induction on
-- the entries. Assumes nothing.
use Prim.Native.Nat.{ℕ, ◌+◌, ◌*◌, ◌<◌}
use mathlib.Core.Path.{◌≡◌, refl, sym, ◌∙◌, ap, subst}
use mathlib.Core.Bool.{Bool, true, false}
use mathlib.Core.List.{List}
use native.Mathlib.Omega.{arith}
use lib.ListN.{length, get_or, replicate, length-replicate, length-set, get_or-replicate}
use lib.Seq.{get_or-take}
use lib.Ieee.{Float}
use Rattle.words.specs.Lists.{list_from}
use Rattle.words.proofs.Runs.{length_from}
use Rattle.plan.specs.Sections.{materials, planes, lights, objects, args_row}
use Rattle.plan.specs.Records.{word_of, material_at, light_at, light_in, head_at}
use Rattle.plan.specs.Plan.{piece_at, pieces_from, count_of, plan_of, seen, plan_in}
use Rattle.record_test.specs.Numbers.{material_number, light_number}
use Rattle.plan_test.specs.Tests.{cutters_of, solids_of, lit_number}
use Rattle.plan_test.specs.Exact.{PieceOk, PlaceIs, SoundLit}
use Rattle.record_test.proofs.Numbers.{light_exact}
use Rattle.plan_test.proofs.Exact.{solids_exact, lit_exact}
use Rattle.plan_write.specs.Written.{arg_cuts, section_of, record_words, piece_words, put_row, put_cutters, one_more}
use Rattle.plan_write.specs.Written.{with_piece, with_material_words, with_light_words}
use Rattle.plan_entry.specs.After.{given_piece, list_of, Made, empty, relent, piece, material, light}
use Rattle.plan_write.proofs.Lists.{length_row, length_cutters}
use Rattle.plan_entry.proofs.Accepts.{Accepted, accepted, taken}
use Rattle.plan_entry.proofs.Sound.{Fits, piece_lit, material_lit, light_lit}
use Rattle.plan_entry.proofs.Entered.{place_for, Placed, placed_for, piece_entered, material_entered}
use Rattle.plan_entry.proofs.Entered.{light_entered, plan_relent}

-- ---- no entry changes the length
length_piece : (among : Bool) (w : List ℕ) (place : ℕ) → length (with_piece among w place) ≡ length w
unfolding with_piece
length_piece among w place =
    let cut : List ℕ = put_cutters w place (arg_cuts w) in
    let row : ℕ = (section_of among).first + count_of (section_of among) w in
    length-set (put_row cut row (piece_words w place)) (section_of among).count (one_more (count_of (section_of among) w))
    ∙ length_row cut row (piece_words w place)
    ∙ length_cutters w place (arg_cuts w)

length_material : (w : List ℕ) → length (with_material_words w) ≡ length w
unfolding with_material_words
length_material w =
    let row : ℕ = 1 + count_of materials w in
    length-set (put_row w row (record_words w 5)) 0 (one_more (count_of materials w)) ∙ length_row w row (record_words w 5)

length_light : (w : List ℕ) → length (with_light_words w) ≡ length w
unfolding with_light_words
length_light w =
    let row : ℕ = 81 + 2 * count_of lights w in
    let one : List ℕ = put_row w row (record_words w 15) in
    length-set (put_row one (row + 1) (record_words w 0)) 2 (one_more (count_of lights w))
    ∙ length_row one (row + 1) (record_words w 0)
    ∙ length_row w row (record_words w 15)

-- ---- the empty plan
none_sound
    : (w : List ℕ) (f : List Float)
    → count_of materials w ≡ 0
    → count_of planes w ≡ 0
    → count_of lights w ≡ 0
    → count_of objects w ≡ 0
    → SoundLit (plan_of w f)
unfolding plan_of pieces_from list_from cutters_of
none_sound w f m p l o =
    rw (m, p, l, o)
    (record {
      solids =
          record {
            counts =
                record {
                  materials = omega arith;
                  planes = omega arith;
                  lights = omega arith;
                  objects = omega arith;
                };
            planes = record { each = tt; places = tt };
            objects = record { each = tt; places = tt };
            room = omega arith;
          };
      lights = tt;
    })

abbrev nothing : List ℕ
nothing = replicate 27296 0

nothing_at : (i : ℕ) → i < 27296 → word_of nothing i ≡ 0
nothing_at i h = get_or-replicate {A = ℕ} 27296 i 0 0 h

-- ---- an accepted piece fits
pub pieces_of : (among : Bool) (w : List ℕ) → length (list_of among (plan_in w)) ≡ count_of (section_of among) w
unfolding plan_of pieces_from
pieces_of true w = length_from (piece_at w (seen w)) 65 (count_of planes w)
pieces_of false w = length_from (piece_at w (seen w)) 113 (count_of objects w)

pub materials_of : (w : List ℕ) → length (plan_in w).materials ≡ count_of materials w
unfolding plan_of
materials_of w = length_from (material_at (seen w)) 1 (count_of materials w)

pub lights_of : (w : List ℕ) → length (plan_in w).lights ≡ count_of lights w
unfolding plan_of
lights_of w = length_from (light_in (seen w)) 0 (count_of lights w)

given_place
    : (among : Bool) (w : List ℕ)
    → Placed among w
    → PlaceIs among (cutters_of (list_of among (plan_in w))) (given_piece w (place_for among w)).head
unfolding given_piece head_at
given_place true w d = d.plane refl
given_place false w d = d.object refl

given_room : (w : List ℕ) (place : ℕ) → (given_piece w place).head.cutters ≡ arg_cuts w
unfolding given_piece head_at
given_room w place = refl

given_ok
    : (among : Bool) (w : List ℕ) (place : ℕ)
    → Accepted among w
    → PieceOk among (count_of materials w) (given_piece w place)
unfolding given_piece head_at
given_ok among w place a =
    let own = a.own in
    record {
      own = record { prim = own.prim; blend = own.blend; material = own.material; list = own.list };
      few = a.few;
      cuts = a.cuts;
    }

fits : (among : Bool) (w : List ℕ) → Accepted among w → Fits among (plan_in w) (given_piece w (place_for among w))
fits among w a =
    let d = placed_for among w a in
    let o = given_room w (place_for among w) in
    let above = d.above in
    let below = d.below in
    record {
      count = rw (pieces_of among w) a.count;
      piece = rw (materials_of w) (given_ok among w (place_for among w) a);
      place = given_place among w d;
      room = rw o (omega arith);
    }

-- ---- the entries
record Good (w : List ℕ) : Type 0 where
  size : length w ≡ 27296
  sound : SoundLit (plan_in w)

good : {w : List ℕ} → Made w → Good w
good empty =
    record {
      size = length-replicate {A = ℕ} 27296 0;
      sound =
          none_sound nothing (seen nothing)
          (nothing_at 0 (omega arith))
          (nothing_at 1 (omega arith))
          (nothing_at 2 (omega arith))
          (nothing_at 3 (omega arith));
    }
good (relent w v m l e) =
    let g = good m in
    let same : (i : ℕ) → i < 22288 → word_of v i ≡ word_of w i
    = λ i h. sym (get_or-take 22288 v i 0 h) ∙ ap (λ (u : List ℕ). get_or u i 0) e ∙ get_or-take 22288 w i 0 h in
    record { size = l; sound = subst SoundLit (sym (plan_relent w v g.sound.solids same)) g.sound }
good (piece among bytes w m e) =
    let g = good m in
    let a = accepted 0 among w bytes e in
    let place : ℕ = place_for among w in
    record {
      size = length_piece among w place ∙ g.size;
      sound =
          subst SoundLit (sym (piece_entered 0 among w bytes g.size e))
          (piece_lit among (plan_in w) (given_piece w place) g.sound (fits among w a));
    }
good (material w m e) =
    let g = good m in
    let t = taken 0 (material_number (material_at (seen w) args_row)) materials w e in
    record {
      size = length_material w ∙ g.size;
      sound =
          subst SoundLit (sym (material_entered 0 w g.size e))
          (material_lit (plan_in w) (material_at (seen w) args_row) g.sound (rw (materials_of w) t.count));
    }
good (light w m e) =
    let g = good m in
    let t = taken 0 (light_number (light_at (seen w) args_row)) lights w e in
    let l = light_at (seen w) args_row in
    record {
      size = length_light w ∙ g.size;
      sound =
          subst SoundLit (sym (light_entered 0 w g.size e))
          (light_lit (plan_in w) l g.sound (rw (lights_of w) t.count) ((light_exact l).0 t.number));
    }

pub made_sound : {w : List ℕ} → Made w → (solids_of (plan_in w)).number ≡ 0
made_sound {w} m = (solids_exact (plan_in w)).1 (good m).sound.solids

pub made_lit : {w : List ℕ} → Made w → lit_number (plan_in w) ≡ 0
made_lit {w} m = (lit_exact (plan_in w)).1 (good m).sound
