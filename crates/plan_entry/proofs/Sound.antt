-- A sound plan with an accepted piece, material or light more is sound. Over the plan as a value: each list's statement
-- with one more at the end. Assumes nothing.
use Prim.Native.Nat.{ℕ, ◌+◌, ◌<◌, ◌≤◌}
use native.Mathlib.Nat.{zero-add}
use native.Mathlib.Omega.{arith}
use mathlib.Core.Bool.{Bool, true, false}
use mathlib.Core.List.{List, [], ◌∷◌, ◌++◌}
use lib.ListN.{length, length-append}
use Rattle.words.proofs.Runs.{all_map, all_snoc}
use Rattle.plan.specs.declared.Material.{Material}
use Rattle.plan.specs.declared.QuadLight.{QuadLight}
use Rattle.plan.specs.Plan.{Piece, Plan}
use Rattle.plan.specs.With.{with_material, with_light}
use Rattle.plan_test.specs.Tests.{cutters_of}
use Rattle.record_test.specs.Exact.{LightOk}
use Rattle.plan_test.specs.Exact.{PieceOk, PlaceIs, PiecesOk, SoundSolids, SoundLit}
use Rattle.plan_test.proofs.Lists.{cutters_snoc}
use Rattle.plan_test.proofs.Apart.{places_snoc}
use Rattle.plan_write.specs.Written.{section_of}
use Rattle.plan_entry.specs.After.{list_of, with_one}

-- a piece that enters
pub record Fits (among : Bool) (p : Plan) (o : Piece) : Type 0 where
  pub count : length (list_of among p) < (section_of among).most
  pub piece : PieceOk among (length p.materials) o
  pub place : PlaceIs among (cutters_of (list_of among p)) o.head
  pub room : cutters_of p.planes + (cutters_of p.objects + o.head.cutters) ≤ 1024

pieces_more
    : (among : Bool) (m : ℕ) (os : List Piece) (o : Piece)
    → PiecesOk among m os
    → PieceOk among m o
    → PlaceIs among (cutters_of os) o.head
    → PiecesOk among m (os ++ (o ∷ []))
pieces_more among m os o s k p =
    record {
      each = all_snoc (PieceOk among m) os o s.each k;
      places = places_snoc among 0 os o s.places (rw zero-add p);
    }

pub piece_sound
    : (among : Bool) (p : Plan) (o : Piece)
    → SoundSolids p
    → Fits among p o
    → SoundSolids (with_one among p o)
piece_sound true p o s f =
    let c = s.counts in
    record {
      counts =
          record {
            materials = c.materials;
            planes = simp length-append (omega (arith, f.count));
            lights = c.lights;
            objects = c.objects;
          };
      planes = pieces_more true (length p.materials) p.planes o s.planes f.piece f.place;
      objects = s.objects;
      room = rw (cutters_snoc p.planes o) (omega (arith, f.room));
    }
piece_sound false p o s f =
    let c = s.counts in
    record {
      counts =
          record {
            materials = c.materials;
            planes = c.planes;
            lights = c.lights;
            objects = simp length-append (omega (arith, f.count));
          };
      planes = s.planes;
      objects = pieces_more false (length p.materials) p.objects o s.objects f.piece f.place;
      room = rw (cutters_snoc p.objects o) (omega (arith, f.room));
    }

pub piece_lit : (among : Bool) (p : Plan) (o : Piece) → SoundLit p → Fits among p o → SoundLit (with_one among p o)
piece_lit true p o s f = record { solids = piece_sound true p o s.solids f; lights = s.lights }
piece_lit false p o s f = record { solids = piece_sound false p o s.solids f; lights = s.lights }

-- a piece's material is present where there are more
more_materials
    : (among : Bool) (m n : ℕ) → m ≤ n → (os : List Piece) → PiecesOk among m os → PiecesOk among n os
more_materials among m n h os s =
    record { each = all_map (PieceOk among m) (PieceOk among n) one os s.each; places = s.places }
  where
    one : (o : Piece) → PieceOk among m o → PieceOk among n o
    one o k =
        let own = k.own in
        let material = own.material in
        record {
          own = record { prim = own.prim; blend = own.blend; material = omega arith; list = own.list };
          few = k.few;
          cuts = k.cuts;
        }

pub material_sound
    : (p : Plan) (m : Material)
    → SoundSolids p
    → length p.materials < 64
    → SoundSolids (with_material p m)
material_sound p m s h =
    let c = s.counts in
    let n : ℕ = length p.materials in
    let all : ℕ = length (p.materials ++ (m ∷ [])) in
    let more : n ≤ all = simp length-append (omega arith) in
    record {
      counts =
          record {
            materials = simp length-append (omega arith);
            planes = c.planes;
            lights = c.lights;
            objects = c.objects;
          };
      planes = more_materials true n all more p.planes s.planes;
      objects = more_materials false n all more p.objects s.objects;
      room = s.room;
    }

pub material_lit
    : (p : Plan) (m : Material) → SoundLit p → length p.materials < 64 → SoundLit (with_material p m)
material_lit p m s h = record { solids = material_sound p m s.solids h; lights = s.lights }

pub light_sound
    : (p : Plan) (l : QuadLight)
    → SoundSolids p
    → length p.lights < 16
    → SoundSolids (with_light p l)
light_sound p l s h =
    let c = s.counts in
    record {
      counts =
          record {
            materials = c.materials;
            planes = c.planes;
            lights = simp length-append (omega arith);
            objects = c.objects;
          };
      planes = s.planes;
      objects = s.objects;
      room = s.room;
    }

pub light_lit
    : (p : Plan) (l : QuadLight)
    → SoundLit p
    → length p.lights < 16
    → LightOk l
    → SoundLit (with_light p l)
light_lit p l s h k =
    record { solids = light_sound p l s.solids h; lights = all_snoc LightOk p.lights l s.lights k }
