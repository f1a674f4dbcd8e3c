-- Which records get the number 0: a primitive, a piece's own words, a light, a piece's cutters. By splitting each test
-- into its parts. Assumes nothing.
use Prim.Native.Nat.{ℕ}
use mathlib.Core.Path.{◌≡◌, refl}
use mathlib.Core.Logic.{◌↔◌}
use mathlib.Core.Bool.{Bool, true, false, not, ◌&&◌, beq, and-eq-true_iff, true≢false, false≢true}
use lib.Dec.{leb, ltb, eqb}
use borrow.Author.Tests.{leb-true, ltb-true, not-true, le-leb, lt-ltb}
use Rattle.vectors.specs.Vec.{vsub}
use Rattle.sdf.specs.declared.Shape.{Shape}
use Rattle.words.specs.Lists.{All}
use Rattle.refusals.specs.Refusals.{unless, lower}
use Rattle.refusals.specs.Ranges.{far, coordinates, within_up_to, radius}
use Rattle.refusals.specs.Prims.{shape_ok, flat, prim_number}
use Rattle.refusals.proofs.Lowest.{told, unless_zero, lower_zero, lowest_exact}
use Rattle.plan.specs.declared.QuadLight.{QuadLight}
use Rattle.plan.specs.declared.Cutter.{Cutter}
use Rattle.plan.specs.declared.Head.{Head}
use Rattle.plan.specs.Plan.{Cuts}
use Rattle.record_test.specs.Numbers.{dark, corners_ok, light_number, cutter_number, cuts_number, own_number}
use Rattle.record_test.specs.Exact.{PrimOk, CutterOk, HeadOk, LightOk}

beq_exact : (a b : Bool) → (beq a b ≡ true) ↔ (a ≡ b)
beq_exact true true = (λ _. refl, λ _. refl)
beq_exact true false = (λ e. absurd (false≢true e), λ e. absurd (true≢false e))
beq_exact false true = (λ e. absurd (false≢true e), λ e. absurd (false≢true e))
beq_exact false false = (λ _. refl, λ _. refl)

prim_to : (k : ℕ) (s : Shape) → prim_number k s ≡ 0 → PrimOk k s
unfolding prim_number
prim_to k s e =
    let p = (lower_zero (unless 1 (leb k 6 && shape_ok s)) (unless 4 (not (flat s)))).0 e in
    let q = (and-eq-true_iff (leb k 6) (shape_ok s)).0 ((unless_zero 0 (leb k 6 && shape_ok s)).0 p.0) in
    record {
      known = leb-true k 6 q.0;
      ranges = (told (shape_ok s)).1 q.1;
      extent = not-true (flat s) ((unless_zero 3 (not (flat s))).0 p.1);
    }

prim_from : (k : ℕ) (s : Shape) → PrimOk k s → prim_number k s ≡ 0
unfolding prim_number unless lower
prim_from k s p = simp (le-leb k 6 p.known, (told (shape_ok s)).0 p.ranges, p.extent)

own_to : (planes : Bool) (m : ℕ) (h : Head) → own_number planes m h ≡ 0 → HeadOk planes m h
unfolding own_number
own_to planes m h e =
    let a : ℕ = prim_number h.kind h.shape in
    let b : ℕ = unless 1 (radius h.blend) in
    let c : ℕ = unless 3 (ltb h.material m) in
    let list : Bool = beq (eqb h.kind 2) planes in
    let d : ℕ = unless 5 list in
    let p = (lower_zero (lower a b) (lower c d)).0 e in
    let q = (lower_zero a b).0 p.0 in
    let s = (lower_zero c d).0 p.1 in
    record {
      prim = prim_to h.kind h.shape q.0;
      blend = (told (radius h.blend)).1 ((unless_zero 0 (radius h.blend)).0 q.1);
      material = ltb-true h.material m ((unless_zero 2 (ltb h.material m)).0 s.0);
      list = (beq_exact (eqb h.kind 2) planes).0 ((unless_zero 4 list).0 s.1);
    }

own_from : (planes : Bool) (m : ℕ) (h : Head) → HeadOk planes m h → own_number planes m h ≡ 0
unfolding own_number unless lower
own_from planes m h p =
    let prim = prim_from h.kind h.shape p.prim in
    let blend = (told (radius h.blend)).0 p.blend in
    let list = (beq_exact (eqb h.kind 2) planes).1 p.list in
    simp (prim, blend, lt-ltb h.material m p.material, list)

pub own_exact : (planes : Bool) (m : ℕ) (h : Head) → (own_number planes m h ≡ 0) ↔ HeadOk planes m h
own_exact planes m h = (own_to planes m h, own_from planes m h)

light_to : (l : QuadLight) → light_number l ≡ 0 → LightOk l
unfolding light_number
light_to l e =
    let v0 : Bool = coordinates l.v0 in
    let v1 : Bool = coordinates l.v1 in
    let v2 : Bool = coordinates l.v2 in
    let v3 : Bool = coordinates l.v3 in
    let emit : Bool = within_up_to l.emit far in
    let none : Bool = dark (vsub l.v1 l.v0) (vsub l.v3 l.v0) in
    let p = (lower_zero (unless 1 (corners_ok l && emit)) (unless 4 (not none))).0 e in
    let q = (and-eq-true_iff (corners_ok l) emit).0 ((unless_zero 0 (corners_ok l && emit)).0 p.0) in
    let a = (and-eq-true_iff v0 (v1 && (v2 && v3))).0 q.0 in
    let b = (and-eq-true_iff v1 (v2 && v3)).0 a.1 in
    let c = (and-eq-true_iff v2 v3).0 b.1 in
    record {
      v0 = (told v0).1 a.0;
      v1 = (told v1).1 b.0;
      v2 = (told v2).1 c.0;
      v3 = (told v3).1 c.1;
      emit = (told emit).1 q.1;
      extent = not-true none ((unless_zero 3 (not none)).0 p.1);
    }

light_from : (l : QuadLight) → LightOk l → light_number l ≡ 0
unfolding light_number unless lower
light_from l k =
    simp (
      (told (coordinates l.v0)).0 k.v0,
      (told (coordinates l.v1)).0 k.v1,
      (told (coordinates l.v2)).0 k.v2,
      (told (coordinates l.v3)).0 k.v3,
      (told (within_up_to l.emit far)).0 k.emit,
      k.extent,
    )

pub light_exact : (l : QuadLight) → (light_number l ≡ 0) ↔ LightOk l
light_exact l = (light_to l, light_from l)

cutter_exact : (c : Cutter) → (cutter_number c ≡ 0) ↔ CutterOk c
unfolding cutter_number
cutter_exact c = (prim_to c.kind c.shape, prim_from c.kind c.shape)

pub cuts_exact : (cs : Cuts) → (cuts_number cs ≡ 0) ↔ All CutterOk cs
unfolding cuts_number
cuts_exact cs = lowest_exact cutter_number CutterOk cutter_exact cs
