-- The five places as a list: what is added to the first five and cut to five is what is added to all and cut; and the
-- ring of what they hold, by one corner more. By induction on the number, and by cases. Assumes nothing.
use Prim.Native.Nat.{ℕ, zero, suc, ◌+◌, ◌-◌, ◌≤◌, ◌<◌}
use mathlib.Core.Path.{◌≡◌, refl, sym, ap, ◌∙◌}
use mathlib.Core.Bool.{Bool, cond}
use mathlib.Core.List.{List, [], ◌∷◌, ◌++◌, map, append-nil, append_assoc}
use native.Mathlib.Numerals.{add-one}
use native.Mathlib.Omega.{arith}
use lib.ListN.{length, take, drop}
use lib.Seq.{take_all}
use lib.Ieee.{Float}
use Rattle.std.proofs.Common.{get_or, drop-cons}
use Rattle.std.proofs.Math.ListN.{drop_of_length-le}
use Rattle.scalar.specs.F32.{f0}
use Rattle.vectors.specs.declared.Vec3.{Vec3}
use Rattle.quad.specs.declared.Quad.{Quad}
use Rattle.ltc.specs.FormFactor.{clip_edge, clipped, clip_of, on_sphere, edge_sum, ring_from, ring_of}

cut_more : {A : Type 0} (n : ℕ) (xs ys : List A) → take n (take n xs ++ ys) ≡ take n (xs ++ ys)
cut_more zero xs ys = refl
cut_more (suc n) [] ys = refl
cut_more (suc n) (x ∷ xs) ys = ap (λ l. x ∷ l) (cut_more n xs ys)

more : (xs ys : List Vec3) {l r : List Vec3} → l ≡ take 5 xs → r ≡ take 5 (l ++ ys) → r ≡ take 5 (xs ++ ys)
more xs ys e h = h ∙ rw e (cut_more 5 xs ys)

-- an edge's two parts, one after the other
pub two_parts
    : (p s : Bool) (a x : Vec3) (xs : List Vec3) {l r : List Vec3}
    → l ≡ take 5 (xs ++ cond p (a ∷ []) [])
    → r ≡ take 5 (l ++ cond s [] (x ∷ []))
    → r ≡ take 5 (xs ++ (cond p (a ∷ []) [] ++ cond s [] (x ∷ [])))
two_parts p s a x xs e h =
    more (xs ++ cond p (a ∷ []) []) (cond s [] (x ∷ [])) e h
    ∙ ap (take 5) (append_assoc xs (cond p (a ∷ []) []) (cond s [] (x ∷ [])))

-- nothing is added to five at most
pub same : (xs : List Vec3) → length xs ≤ 5 → xs ≡ take 5 (xs ++ [])
same xs h = rw append-nil (sym (take_all 5 xs h))

-- the four edges, one after the other
pub four :
    (q : Quad) {k l m n r : List Vec3} → k ≡ [] → l ≡ take 5 (k ++ clip_edge q.v0 q.v1)
    → m ≡ take 5 (l ++ clip_edge q.v1 q.v2) → n ≡ take 5 (m ++ clip_edge q.v2 q.v3)
    → r ≡ take 5 (n ++ clip_edge q.v3 q.v0) → r ≡ clip_of q
unfolding clip_of clipped
four q e0 e1 e2 e3 e4 =
    let a = clip_edge q.v0 q.v1 in
    let b = clip_edge q.v1 q.v2 in
    let d = clip_edge q.v2 q.v3 in
    more ((a ++ b) ++ d) _ (more (a ++ b) d (more a b (more [] a e0 e1) e2) e3) e4

-- ---- the ring of the first n places: none of fewer than three; else its start, a turn of the code's loop, and its end
pub no_ring : (n : ℕ) (ps : List Vec3) → n < 3 → ring_of (take n ps) ≡ f0
unfolding ring_of
no_ring zero ps h = refl
no_ring (suc n) [] h = refl
no_ring (suc zero) (a ∷ ps) h = refl
no_ring (suc (suc n)) (a ∷ []) h = refl
no_ring (suc (suc zero)) (a ∷ b ∷ ps) h = refl
no_ring (suc (suc (suc n))) (a ∷ b ∷ ps) h = absurd (omega arith)

-- one place more, and the first of two or more
from_first
    : (k : ℕ) (ps : List Vec3) (d : Vec3) → 2 ≤ k → k < length ps
    → ring_from (on_sphere (get_or ps 0 d)) (on_sphere (get_or ps 0 d) ∷ map on_sphere (take k (drop 1 ps))) f0
    ≡ ring_of (take (suc k) ps)
unfolding ring_of
from_first k [] d g h = absurd (omega arith)
from_first zero (a ∷ ps) d g h = absurd (omega arith)
from_first (suc zero) (a ∷ ps) d g h = absurd (omega arith)
from_first (suc (suc k)) (a ∷ []) d g h = absurd (omega arith)
from_first (suc (suc k)) (a ∷ b ∷ []) d g h = absurd (omega arith)
from_first (suc (suc k)) (a ∷ b ∷ e ∷ ps) d g h = refl

pub ring_start
    : (n : ℕ) (ps : List Vec3) (d : Vec3) → 3 ≤ n → n ≤ length ps
    → ring_from (on_sphere (get_or ps 0 d)) (on_sphere (get_or ps 0 d) ∷ map on_sphere (take (n - 1) (drop 1 ps))) f0
    ≡ ring_of (take n ps)
ring_start n ps d g h =
    let e : suc (n - 1) ≡ n = omega arith in
    let f = from_first (n - 1) ps d (omega arith) (omega arith) in
    rw e at f

pub ring_turn
    : (first a b : Vec3) (vs : List Vec3) (i : ℕ) (s t : Float) (d : Vec3) {whole : Float} → i < length vs
    → b ≡ on_sphere (get_or vs i d) → t ≡ edge_sum s a b
    → ring_from first (a ∷ map on_sphere (drop i vs)) s ≡ whole
    → ring_from first (b ∷ map on_sphere (drop (i + 1) vs)) t ≡ whole
unfolding ring_from
ring_turn first a b vs i s t d h eb et e = rw (et, eb, add-one) (rw (drop-cons vs i d h) at e)

pub ring_end
    : (first a : Vec3) (vs : List Vec3) (i : ℕ) (s : Float) {t whole : Float}
    → ring_from first (a ∷ map on_sphere (drop i vs)) s ≡ whole → t ≡ edge_sum s a first → length vs ≤ i
    → t ≡ whole
unfolding ring_from
ring_end first a vs i s e et h = rw et (rw (drop_of_length-le vs {i = i} h) at e)
