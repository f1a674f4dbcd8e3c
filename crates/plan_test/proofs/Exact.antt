-- A plan gets 0 exactly when every record to be read is one that the entries could have left. By induction
-- on the lists. Assumes nothing.
use Prim.Native.Nat.{ℕ, ◌+◌, ◌≤◌}
use mathlib.Core.Path.{◌≡◌, refl, sym, ◌∙◌}
use mathlib.Core.Logic.{◌↔◌}
use mathlib.Core.Bool.{Bool, true, false, cond, ◌&&◌, and-eq-true_iff}
use mathlib.Core.List.{List, [], ◌∷◌}
use lib.ListN.{length}
use lib.Dec.{leb, eqb}
use borrow.Author.Tests.{leb-true, eqb-true, le-leb, eq-eqb}
use Rattle.words.specs.Lists.{All}
use Rattle.refusals.specs.Refusals.{no_room, lower, lowest_of}
use Rattle.refusals.proofs.Lowest.{cond_zero, lower_zero, lowest_exact}
use Rattle.plan.specs.declared.Head.{Head}
use Rattle.plan.specs.Plan.{Piece, Plan}
use Rattle.plan_test.specs.declared.Solids.{Solids}
use Rattle.record_test.specs.Numbers.{light_number, own_number, piece_own, piece_cuts, cuts_number}
use Rattle.plan_test.specs.Tests.{counts_ok, cutters_of, place_ok, places_ok, tally_of, objects_number}
use Rattle.plan_test.specs.Tests.{solids_placed, solids_of, lit_number}
use Rattle.plan_test.specs.Exact.{PieceOk, PlaceIs, PlacesAre, PiecesOk, CountsOk, SoundObjects, SoundSolids}
use Rattle.record_test.specs.Exact.{LightOk}
use Rattle.plan_test.specs.Exact.{SoundLit}
use Rattle.record_test.proofs.Numbers.{own_exact, light_exact, cuts_exact}

-- ---- pieces: what their own words get, their places, and what their cutters get
place_exact
    : (among : Bool) (before : ℕ) (h : Head)
    → (place_ok among before h ≡ true) ↔ ((h.cutters ≤ 8) × PlaceIs among before h)
unfolding place_ok
place_exact true before h =
    let q = and-eq-true_iff (leb h.cutters 8) (eqb (h.place + (before + h.cutters)) 1024) in (
      λ e. (leb-true h.cutters 8 (q.0 e).0, eqb-true (h.place + (before + h.cutters)) 1024 (q.0 e).1),
      λ p. q.1 (le-leb h.cutters 8 p.0, eq-eqb (h.place + (before + h.cutters)) 1024 p.1),
    )
place_exact false before h =
    let q = and-eq-true_iff (leb h.cutters 8) (eqb h.place before) in (
      λ e. (leb-true h.cutters 8 (q.0 e).0, eqb-true h.place before (q.0 e).1),
      λ p. q.1 (le-leb h.cutters 8 p.0, eq-eqb h.place before p.1),
    )

-- the three tests of a list of pieces, after pieces with so many cutters
record Zero (among : Bool) (m before : ℕ) (os : List Piece) : Type 0 where
  own : lowest_of (piece_own among m) os ≡ 0
  placed : places_ok among before os ≡ true
  cuts : lowest_of piece_cuts os ≡ 0

record Ok (among : Bool) (m before : ℕ) (os : List Piece) : Type 0 where
  each : All (PieceOk among m) os
  places : PlacesAre among before os

pieces_to : (among : Bool) (m before : ℕ) (os : List Piece) → Zero among m before os → Ok among m before os
unfolding lowest_of places_ok piece_own piece_cuts
pieces_to among m before [] z = record { each = tt; places = tt }
pieces_to among m before (o ∷ os) z =
    let after : ℕ = before + o.head.cutters in
    let a = (lower_zero (own_number among m o.head) (lowest_of (piece_own among m) os)).0 z.own in
    let b = (and-eq-true_iff (place_ok among before o.head) (places_ok among after os)).0 z.placed in
    let k = (lower_zero (cuts_number o.cuts) (lowest_of piece_cuts os)).0 z.cuts in
    let p = (place_exact among before o.head).0 b.0 in
    let ih = pieces_to among m after os (record { own = a.1; placed = b.1; cuts = k.1 }) in
    record {
      each = (
        record { own = (own_exact among m o.head).0 a.0; few = p.0; cuts = (cuts_exact o.cuts).0 k.0 },
        ih.each,
      );
      places = (p.1, ih.places);
    }

pieces_from : (among : Bool) (m before : ℕ) (os : List Piece) → Ok among m before os → Zero among m before os
unfolding lowest_of places_ok piece_own piece_cuts
pieces_from among m before [] z = record { own = refl; placed = refl; cuts = refl }
pieces_from among m before (o ∷ os) z =
    let after : ℕ = before + o.head.cutters in
    let e = z.each in
    let p = z.places in
    let ih = pieces_from among m after os (record { each = e.1; places = p.1 }) in
    let own = (own_exact among m o.head).1 e.0.own in
    let here = (place_exact among before o.head).1 (e.0.few, p.0) in
    let cuts = (cuts_exact o.cuts).1 e.0.cuts in
    record {
      own = (lower_zero (own_number among m o.head) (lowest_of (piece_own among m) os)).1 (own, ih.own);
      placed = (and-eq-true_iff (place_ok among before o.head) (places_ok among after os)).1 (here, ih.placed);
      cuts = (lower_zero (cuts_number o.cuts) (lowest_of piece_cuts os)).1 (cuts, ih.cuts);
    }

module _ (among : Bool) (m : ℕ) (os : List Piece) where
  to : Zero among m 0 os → PiecesOk among m os
  to z = let k = pieces_to among m 0 os z in record { each = k.each; places = k.places }

  from : PiecesOk among m os → Zero among m 0 os
  from k = pieces_from among m 0 os (record { each = k.each; places = k.places })

-- ---- the counts
pub counts_exact : (p : Plan) → (counts_ok p ≡ true) ↔ CountsOk p
unfolding counts_ok
counts_exact p =
    let m : ℕ = length p.materials in
    let n : ℕ = length p.planes in
    let l : ℕ = length p.lights in
    let o : ℕ = length p.objects in
    let a = and-eq-true_iff (leb m 64) (leb n 16 && (leb l 16 && leb o 256)) in
    let b = and-eq-true_iff (leb n 16) (leb l 16 && leb o 256) in
    let c = and-eq-true_iff (leb l 16) (leb o 256) in (
      λ e. let q = a.0 e in let s = b.0 q.1 in let t = c.0 s.1 in
          record {
            materials = leb-true m 64 q.0;
            planes = leb-true n 16 s.0;
            lights = leb-true l 16 t.0;
            objects = leb-true o 256 t.1;
          },
      λ k. let few = c.1 (le-leb l 16 k.lights, le-leb o 256 k.objects) in
          a.1 (le-leb m 64 k.materials, b.1 (le-leb n 16 k.planes, few)),
    )

-- ---- a plan
module _ (p : Plan) where
  abbrev m : ℕ
  m = length p.materials

  abbrev planes_used : ℕ
  planes_used = cutters_of p.planes

  abbrev objects_used : ℕ
  objects_used = cutters_of p.objects

  abbrev plane_cuts : ℕ
  plane_cuts = lowest_of piece_cuts p.planes

  abbrev object_cuts : ℕ
  object_cuts = lowest_of piece_cuts p.objects

  pub objects_exact : (objects_number p ≡ 0) ↔ SoundObjects p
  unfolding objects_number tally_of
  objects_exact =
      let own : ℕ = lowest_of (piece_own false m) p.objects in
      let right : Bool = places_ok false 0 p.objects in
      let all : Bool = right && leb objects_used 1024 in
      let a = cond_zero (counts_ok p) (lower own (cond all object_cuts no_room)) 1 in
      let b = lower_zero own (cond all object_cuts no_room) in
      let c = cond_zero all object_cuts 1 in
      let d = and-eq-true_iff right (leb objects_used 1024) in (
        λ e. let x = a.0 e in let y = b.0 x.1 in let z = c.0 y.1 in let t = d.0 z.0 in
            record {
              counts = (counts_exact p).0 x.0;
              objects = to false m p.objects (record { own = y.0; placed = t.0; cuts = z.1 });
              room = leb-true objects_used 1024 t.1;
            },
        λ s.
            let k = from false m p.objects s.objects in
            let t = d.1 (k.placed, le-leb objects_used 1024 s.room) in
            a.1 ((counts_exact p).1 s.counts, b.1 (k.own, c.1 (t, k.cuts))),
      )

  -- the number of a test that has one
  number_of : (b : Bool) (s t : Solids) → (cond b s t).number ≡ cond b s.number t.number
  number_of true s t = refl
  number_of false s t = refl

  abbrev owns : ℕ
  owns = lower (lowest_of (piece_own true m) p.planes) (lowest_of (piece_own false m) p.objects)

  abbrev solids_number : ℕ
  solids_number = lower owns (cond (solids_placed p) (lower plane_cuts object_cuts) no_room)

  solids_number_lem : (solids_of p).number ≡ cond (counts_ok p) solids_number no_room
  unfolding solids_of tally_of
  solids_number_lem = number_of (counts_ok p) _ _

  pub solids_exact : ((solids_of p).number ≡ 0) ↔ SoundSolids p
  unfolding tally_of
  solids_exact =
      let planes : Bool = places_ok true 0 p.planes in
      let objects : Bool = places_ok false 0 p.objects in
      let few : Bool = leb (planes_used + objects_used) 1024 in
      let a = cond_zero (counts_ok p) solids_number 1 in
      let b = lower_zero owns (cond (solids_placed p) (lower plane_cuts object_cuts) no_room) in
      let o = lower_zero (lowest_of (piece_own true m) p.planes) (lowest_of (piece_own false m) p.objects) in
      let c = cond_zero (solids_placed p) (lower plane_cuts object_cuts) 1 in
      let k = lower_zero plane_cuts object_cuts in
      let d = and-eq-true_iff planes (objects && few) in
      let f = and-eq-true_iff objects few in (
        λ e.
            let x = a.0 (sym solids_number_lem ∙ e) in
            let y = b.0 x.1 in
            let own = o.0 y.0 in
            let z = c.0 y.1 in
            let cuts = k.0 z.1 in
            let t = d.0 z.0 in
            let u = f.0 t.1 in
            record {
              counts = (counts_exact p).0 x.0;
              planes = to true m p.planes (record { own = own.0; placed = t.0; cuts = cuts.0 });
              objects = to false m p.objects (record { own = own.1; placed = u.0; cuts = cuts.1 });
              room = leb-true (planes_used + objects_used) 1024 u.1;
            },
        λ s.
            let x = from true m p.planes s.planes in
            let y = from false m p.objects s.objects in
            let t = d.1 (x.placed, f.1 (y.placed, le-leb (planes_used + objects_used) 1024 s.room)) in
            let cuts = k.1 (x.cuts, y.cuts) in
            solids_number_lem ∙ a.1 ((counts_exact p).1 s.counts, b.1 (o.1 (x.own, y.own), c.1 (t, cuts))),
      )

  -- the places that the two lists use
  used : counts_ok p ≡ true → ((solids_of p).planes ≡ planes_used) × ((solids_of p).objects ≡ objects_used)
  unfolding solids_of tally_of
  used e = (rw e, rw e)

  pub solids_used
      : (solids_of p).number ≡ 0 → ((solids_of p).planes ≡ planes_used) × ((solids_of p).objects ≡ objects_used)
  solids_used e = used ((counts_exact p).1 (solids_exact.0 e).counts)

  pub lit_exact : (lit_number p ≡ 0) ↔ SoundLit p
  unfolding lit_number
  lit_exact =
      let lights : ℕ = lowest_of light_number p.lights in
      let a = cond_zero (counts_ok p) (lower (solids_of p).number lights) 1 in
      let b = lower_zero (solids_of p).number lights in
      let l = lowest_exact light_number LightOk light_exact p.lights in (
        λ e. let y = b.0 (a.0 e).1 in record { solids = solids_exact.0 y.0; lights = l.0 y.1 },
        λ s. a.1 ((counts_exact p).1 s.solids.counts, b.1 (solids_exact.1 s.solids, l.1 s.lights)),
      )
