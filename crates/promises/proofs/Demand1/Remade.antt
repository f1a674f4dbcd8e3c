-- A plan that passes is one that entries make, but for materials: row by row it is lent again. Assumes nothing.
use Prim.Native.Nat.{ℕ, zero, suc, ◌+◌, ◌*◌, ◌<◌, ◌≤◌}
use native.Mathlib.Nat.{add-zero, zero-add}
use native.Mathlib.Omega.{arith}
use mathlib.Core.Path.{◌≡◌, refl, sym, ◌∙◌, ap, subst}
use mathlib.Core.Logic.{◌↔◌}
use mathlib.Core.Bool.{Bool, true, false}
use mathlib.Core.List.{List, [], ◌∷◌, ◌++◌}
use lib.ListN.{length}
use lib.Dec.{ltb}
use Rattle.words.specs.Lists.{list_from, All}
use Rattle.words.proofs.Runs.{from_snoc, length_from, All-from}
use Rattle.words.proofs.Laws.{Bytes}
use Rattle.plan.specs.Sections.{materials, planes, lights, objects}
use Rattle.plan.specs.declared.Head.{Head}
use Rattle.plan.specs.declared.Material.{Material}
use Rattle.plan.specs.declared.QuadLight.{QuadLight}
use Rattle.plan.specs.Records.{word_of, light_in, head_at}
use Rattle.plan.specs.Plan.{Piece, Plan, piece_at, pieces_from, count_of, plan_of, seen, plan_in}
use Rattle.plan_test.specs.Tests.{cutters_of, lit_number}
use Rattle.record_test.specs.Exact.{LightOk}
use Rattle.plan_test.specs.Exact.{PieceOk, PlaceIs, PlacesAre, CountsOk, SoundLit}
use Rattle.plan_test.proofs.Exact.{lit_exact}
use Rattle.wire.specs.Lent.{plan_table}
use Rattle.promises.specs.Bytes.{plan_at}
use Rattle.promises.proofs.Cases.{either}
use Rattle.plan_entry.proofs.Made.{materials_of, lights_of, pieces_of}
use Rattle.promises.proofs.Demand1.Small.{Small, table_small}
use Rattle.promises.proofs.Demand1.Given.{head_by, piece_by, rows_of, piece_by_lem}
use Rattle.promises.proofs.Demand1.Reached.{Reached, plain_material, reached_sound, reach_none, reach_material}
use Rattle.promises.proofs.Demand1.Reached.{reach_light, reach_plane, reach_object}

-- ---- piece k of a list of pieces: its place, and the room that it leaves
module _ (among : Bool) (f : ℕ → Piece) where
  record Turn (a k n before : ℕ) : Type 0 where
    at : PlaceIs among (before + cutters_of (list_from f a k)) (f (a + k)).head
    part : cutters_of (list_from f a k) + (f (a + k)).head.cutters ≤ cutters_of (list_from f a n)

  turn : (a k n before : ℕ) → k < n → PlacesAre among before (list_from f a n) → Turn a k n before
  unfolding list_from cutters_of
  turn a k zero before h s = absurd (omega arith)
  turn a zero (suc n) before h s =
      record { at = rw (add-zero before, add-zero a) s.0; part = rw (add-zero a) (omega arith) }
  turn a (suc k) (suc n) before h s =
      let c : ℕ = (f a).head.cutters in
      let rest : ℕ = cutters_of (list_from f (suc a) k) in
      let ih = turn (suc a) k n (before + c) (omega arith) s.1 in
      let e : a + suc k ≡ suc a + k = omega arith in
      let g : before + (c + rest) ≡ before + c + rest = omega arith in
      let part = ih.part in
      record { at = rw (e, g) ih.at; part = rw e (omega arith) }

fits : (among : Bool) (before : ℕ) (h : Head) → PlaceIs among before h → before + h.cutters ≤ 1024
    → h.place + h.cutters ≤ 1024
fits true before h p l = omega arith
fits false before h p l = omega arith

rows_small : (w : List ℕ) → ((i : ℕ) → Small (word_of w i)) → (r k : ℕ) → Small (rows_of w r k)
unfolding rows_of
rows_small w s r k = either Small (ltb k 16) _ _ (s (16 * r + k)) (s (16 * (368 + (head_at w (seen w) r).place) + k))

-- ---- the pieces of a table, lent one after the other: `put` is the plan with a list of pieces
module _ (among : Bool) (m : ℕ) (w : List ℕ) (small : (i : ℕ) → Small (word_of w i)) (a n : ℕ)
    (inside : a + n ≤ 1706) (put : List Piece → Plan)
    (places : PlacesAre among 0 (list_from (piece_at w (seen w)) a n))
    (each : All (PieceOk among m) (list_from (piece_at w (seen w)) a n))
    (few : cutters_of (list_from (piece_at w (seen w)) a n) ≤ 1024)
    (next : (os : List Piece) (g : ℕ → ℕ)
    → ((i : ℕ) → Small (g i))
    → PieceOk among m (piece_by g)
    → PlaceIs among (cutters_of os) (head_by g)
    → length os < n
    → cutters_of os + g 2 ≤ cutters_of (list_from (piece_at w (seen w)) a n)
    → Reached (put os)
    → Reached (put (os ++ (piece_by g ∷ [])))) where
  refill : (k : ℕ) → k ≤ n → Reached (put []) → Reached (put (list_from (piece_at w (seen w)) a k))
  unfolding list_from
  refill zero h r = r
  refill (suc k) h r =
      let f : ℕ → Piece = piece_at w (seen w) in
      let os : List Piece = list_from f a k in
      let o : Piece = f (a + k) in
      let g : ℕ → ℕ = rows_of w (a + k) in
      let t = turn among f a k n 0 (omega arith) places in
      let part = t.part in
      let at : PlaceIs among (cutters_of os) o.head = rw (zero-add (cutters_of os)) at t.at in
      let fit = fits among (cutters_of os) o.head at (omega arith) in
      let same : piece_by g ≡ o = piece_by_lem w (a + k) (omega arith) fit in
      let head : head_by g ≡ o.head = ap (λ (x : Piece). x.head) same in
      let cutters : g 2 ≡ o.head.cutters = ap (λ (x : Head). x.cutters) head in
      subst (λ (l : List Piece). Reached (put l))
      (ap (λ (x : Piece). os ++ (x ∷ [])) same ∙ sym (from_snoc f a k))
      (next os g (rows_small w small (a + k)) (rw same (All-from (PieceOk among m) f a n each k (omega arith)))
      (subst (λ (x : Head). PlaceIs among (cutters_of os) x) (sym head) at)
      (omega (arith, length_from f a k)) (omega arith) (refill k (omega arith) r))

-- ---- materials of zeros, as many
abbrev plain : ℕ → Material
plain k = plain_material

abbrev plan_of_lists : ℕ → List Piece → List QuadLight → List Piece → Plan
plan_of_lists m ps ls os = record { materials = list_from plain 0 m; planes = ps; lights = ls; objects = os }

fill_materials : (m : ℕ) → m ≤ 64 → Reached (plan_of_lists m [] [] [])
unfolding list_from
fill_materials zero h = reach_none
fill_materials (suc m) h =
    subst (λ (l : List Material). Reached (record { materials = l; planes = []; lights = []; objects = [] }))
    (sym (from_snoc plain 0 m))
    (reach_material (fill_materials m (omega arith)) (omega (arith, length_from plain 0 m)))

-- what entries make of a plan
pub record Remade (p : Plan) : Type 0 where
  pub made : Plan
  pub reached : Reached made
  pub materials_as_many : length made.materials ≡ length p.materials
  pub planes_same : made.planes ≡ p.planes
  pub lights_same : made.lights ≡ p.lights
  pub objects_same : made.objects ≡ p.objects

module _ (w : List ℕ) (small : (i : ℕ) → Small (word_of w i)) (s : SoundLit (plan_in w)) where
  abbrev p : Plan
  p = plan_in w

  abbrev m : ℕ
  m = count_of materials w

  few : CountsOk p
  few = s.solids.counts

  as_many : length (list_from plain 0 m) ≡ length p.materials
  as_many = length_from plain 0 m ∙ sym (materials_of w)

  fill_planes : Reached (plan_of_lists m [] [] []) → Reached (plan_of_lists m p.planes [] [])
  unfolding plan_of pieces_from cutters_of
  fill_planes =
      let n : ℕ = count_of planes w in
      let room = s.solids.room in
      let most : n ≤ 16 = rw (pieces_of true w) at few.planes in
      refill true (length p.materials) w small 65 n (omega arith) (λ os. plan_of_lists m os [] [])
      s.solids.planes.places s.solids.planes.each (omega arith)
      (λ os g b ok at l part r.
      reach_plane r g
      (record { small = b; ok = rw as_many ok; at = at; count = omega arith; room = omega arith })) n (omega arith)

  fill_objects
      : (ls : List QuadLight)
      → Reached (plan_of_lists m p.planes ls [])
      → Reached (plan_of_lists m p.planes ls p.objects)
  unfolding plan_of pieces_from
  fill_objects ls =
      let n : ℕ = count_of objects w in
      let room = s.solids.room in
      let most : n ≤ 256 = rw (pieces_of false w) at few.objects in
      refill false (length p.materials) w small 113 n (omega arith) (λ os. plan_of_lists m p.planes ls os)
      s.solids.objects.places s.solids.objects.each (omega arith)
      (λ os g b ok at l part r.
      reach_object r g
      (record { small = b; ok = rw as_many ok; at = at; count = omega arith; room = omega arith })) n (omega arith)

  fill_lights
      : (ps : List Piece) (k : ℕ)
      → k ≤ count_of lights w
      → Reached (plan_of_lists m ps [] [])
      → Reached (plan_of_lists m ps (list_from (light_in (seen w)) 0 k) [])
  unfolding plan_of list_from light_in
  fill_lights ps zero h r = r
  fill_lights ps (suc k) h r =
      let n : ℕ = count_of lights w in
      let most : n ≤ 16 = rw (lights_of w) at few.lights in
      let ok = All-from LightOk (light_in (seen w)) 0 n s.lights k (omega arith) in
      subst (λ (ls : List QuadLight). Reached (plan_of_lists m ps ls [])) (sym (from_snoc (light_in (seen w)) 0 k))
      (reach_light (fill_lights ps k (omega arith) r) w (81 + 2 * (0 + k)) (omega arith) small ok
      (omega (arith, length_from (light_in (seen w)) 0 k)))

  remade : Remade p
  unfolding plan_of
  remade =
      let c = few.materials in
      let planes = fill_planes (fill_materials m (omega (arith, materials_of w))) in
      record {
        made = plan_of_lists m p.planes p.lights p.objects;
        reached = fill_objects p.lights (fill_lights p.planes (count_of lights w) (omega arith) planes);
        materials_as_many = as_many;
        planes_same = refl;
        lights_same = refl;
        objects_same = refl;
      }

passes_made : (plan : List ℕ) → Bytes plan → SoundLit (plan_at plan) → Remade (plan_at plan)
passes_made plan b s = remade (plan_table 0 plan []) (table_small 0 plan [] b (λ k. omega arith)) s

-- the test of a whole plan passes it exactly then
sound_by
    : (p q : Plan)
    → length q.materials ≡ length p.materials
    → q.planes ≡ p.planes
    → q.lights ≡ p.lights
    → q.objects ≡ p.objects
    → SoundLit q
    → SoundLit p
sound_by p q m a l o s =
    let c = s.solids.counts in
    let c0 = c.materials in
    record {
      solids =
          record {
            counts =
                record {
                  materials = omega arith;
                  planes = rw a at c.planes;
                  lights = rw l at c.lights;
                  objects = rw o at c.objects;
                };
            planes = rw (m, a) at s.solids.planes;
            objects = rw (m, o) at s.solids.objects;
            room = rw (a, o) at s.solids.room;
          };
      lights = rw l at s.lights;
    }

pub passes_exactly : (plan : List ℕ) → Bytes plan → (lit_number (plan_at plan) ≡ 0) ↔ Remade (plan_at plan)
passes_exactly plan b =
    let e = lit_exact (plan_at plan) in (
      λ z. passes_made plan b (e.0 z),
      λ r.
          e.1
          (sound_by (plan_at plan) r.made r.materials_as_many r.planes_same r.lights_same r.objects_same
          (reached_sound r.reached)),
    )
