-- No two pieces of a sound plan share a cutter place: the cutters of one end before those of the other begin, by the
-- sums of cutters before each piece. Assumes nothing.
use Prim.Native.Nat.{ℕ, ◌+◌, ◌≤◌}
use native.Mathlib.Nat.{add-zero, add_assoc}
use native.Mathlib.Omega.{arith}
use mathlib.Core.Path.{◌≡◌}
use mathlib.Core.Bool.{Bool, true, false}
use mathlib.Core.List.{List, [], ◌∷◌, ◌++◌}
use Rattle.words.specs.Lists.{All}
use Rattle.plan.specs.Plan.{Piece, Plan}
use Rattle.plan_test.specs.Tests.{cutters_of}
use Rattle.plan_test.specs.Exact.{PlaceIs, PlacesAre, SoundObjects, SoundSolids}

cutters_append : (xs ys : List Piece) → cutters_of (xs ++ ys) ≡ cutters_of xs + cutters_of ys
unfolding cutters_of
cutters_append [] ys = omega arith
cutters_append (x ∷ xs) ys = rw (cutters_append xs ys) (omega arith)

-- the pieces after some have the places after theirs
places_after
    : (among : Bool) (before : ℕ) (xs ys : List Piece)
    → PlacesAre among before (xs ++ ys)
    → PlacesAre among (before + cutters_of xs) ys
unfolding cutters_of
places_after among before [] ys p = rw add-zero p
places_after among before (x ∷ xs) ys p =
    let after : ℕ = before + x.head.cutters in
    rw (← (add_assoc before x.head.cutters (cutters_of xs))) (places_after among after xs ys p.1)

pub places_snoc
    : (among : Bool) (before : ℕ) (os : List Piece) (o : Piece)
    → PlacesAre among before os
    → PlaceIs among (before + cutters_of os) o.head
    → PlacesAre among before (os ++ (o ∷ []))
unfolding cutters_of
places_snoc among before [] o p q = (rw add-zero at q, tt)
places_snoc among before (x ∷ os) o p q =
    let e = add_assoc before x.head.cutters (cutters_of os) in
    (p.0, places_snoc among (before + x.head.cutters) os o p.1 (rw e q))

-- the places that pieces use: below what the objects use, or from what the planes leave on
pub objects_reach
    : (before most : ℕ) (os : List Piece)
    → PlacesAre false before os
    → before + cutters_of os ≤ most
    → All (λ o. o.head.place + o.head.cutters ≤ most) os
unfolding cutters_of
objects_reach before most [] p h = tt
objects_reach before most (o ∷ os) p h =
    let here : o.head.place ≡ before = p.0 in
    (omega arith, objects_reach (before + o.head.cutters) most os p.1 (omega arith))

pub planes_reach
    : (before most : ℕ) (os : List Piece)
    → PlacesAre true before os
    → before + cutters_of os ≤ most
    → All (λ o. (1024 ≤ o.head.place + most) × (o.head.place + o.head.cutters ≤ 1024)) os
unfolding cutters_of
planes_reach before most [] p h = tt
planes_reach before most (o ∷ os) p h =
    let here : o.head.place + (before + o.head.cutters) ≡ 1024 = p.0 in
    ((omega arith, omega arith), planes_reach (before + o.head.cutters) most os p.1 (omega arith))

-- the cutters of a, from its place on, end before those of b begin
abbrev pub EndsBefore : Piece → Piece → Type 0
EndsBefore a b = a.head.place + a.head.cutters ≤ b.head.place

-- a stands before b
module _ (a b : Piece) (xs ys zs : List Piece) where
  pub objects_apart
      : (p : Plan) → SoundObjects p → p.objects ≡ xs ++ (a ∷ (ys ++ (b ∷ zs))) → EndsBefore a b
  objects_apart p s e =
      let q = places_after false 0 xs (a ∷ (ys ++ (b ∷ zs))) (rw e at s.objects.places) in
      let t = places_after false (0 + cutters_of xs + a.head.cutters) ys (b ∷ zs) q.1 in
      let here = q.0 in
      let there = t.0 in
      omega arith

  pub planes_apart : (p : Plan) → SoundSolids p → p.planes ≡ xs ++ (a ∷ (ys ++ (b ∷ zs))) → EndsBefore b a
  planes_apart p s e =
      let q = places_after true 0 xs (a ∷ (ys ++ (b ∷ zs))) (rw e at s.planes.places) in
      let t = places_after true (0 + cutters_of xs + a.head.cutters) ys (b ∷ zs) q.1 in
      let here = q.0 in
      let there = t.0 in
      omega arith

-- an object's end before any plane's
pub lists_apart
    : (p : Plan) (o q : Piece) (xs ys us vs : List Piece)
    → SoundSolids p
    → p.objects ≡ xs ++ (o ∷ ys)
    → p.planes ≡ us ++ (q ∷ vs)
    → EndsBefore o q
unfolding cutters_of
lists_apart p o q xs ys us vs s e g =
    let a = (places_after false 0 xs (o ∷ ys) (rw e at s.objects.places)).0 in
    let b = (places_after true 0 us (q ∷ vs) (rw g at s.planes.places)).0 in
    let room = rw (e, g, cutters_append xs (o ∷ ys), cutters_append us (q ∷ vs)) at s.room in
    omega arith
