-- How many corners there are: the clip gives five at most, its four edges six at most, and a sixth exactly where the
-- four heights alternate; anywhere else five places hold all. By the heights' four Bools. Assumes nothing.
use Prim.Native.Nat.{ℕ, ◌+◌, ◌≤◌, ◌<◌}
use mathlib.Core.Path.{◌≡◌, refl}
use mathlib.Core.Logic.{◌↔◌, ◌⊎◌, inl, inr, ⊎_elim}
use mathlib.Core.Bool.{Bool, true, false, not, cond, beq}
use mathlib.Core.List.{[], ◌∷◌, ◌++◌}
use native.Mathlib.Omega.{arith}
use lib.ListN.{length, length-append, length-take}
use Rattle.vectors.specs.declared.Vec3.{Vec3}
use Rattle.quad.specs.declared.Quad.{Quad}
use Rattle.ltc.specs.FormFactor.{above, crossing_of, clip_edge, clipped, clip_of}

-- an edge's corners, counted by the heights of its ends, and those of all four edges
edge : Bool → Bool → ℕ
edge a b = cond a 1 0 + cond (beq a b) 0 1

edges : Bool → Bool → Bool → Bool → ℕ
edges a b c d = edge a b + edge b c + edge c d + edge d a

abbrev Alternate : Bool → Bool → Bool → Bool → Type 0
Alternate a b c d = (b ≡ not a) × (c ≡ a) × (d ≡ not a)

five_or_six : (a b c d : Bool) → (edges a b c d ≤ 5) ⊎ ((edges a b c d ≡ 6) × Alternate a b c d)
unfolding edges edge
five_or_six true true true true = inl (omega arith)
five_or_six true true true false = inl (omega arith)
five_or_six true true false true = inl (omega arith)
five_or_six true true false false = inl (omega arith)
five_or_six true false true true = inl (omega arith)
five_or_six true false true false = inr (refl, (refl, refl, refl))
five_or_six true false false true = inl (omega arith)
five_or_six true false false false = inl (omega arith)
five_or_six false true true true = inl (omega arith)
five_or_six false true true false = inl (omega arith)
five_or_six false true false true = inr (refl, (refl, refl, refl))
five_or_six false true false false = inl (omega arith)
five_or_six false false true true = inl (omega arith)
five_or_six false false true false = inl (omega arith)
five_or_six false false false true = inl (omega arith)
five_or_six false false false false = inl (omega arith)

alternating : (a : Bool) → edges a (not a) a (not a) ≡ 6
unfolding edges edge
alternating true = refl
alternating false = refl

two_parts
    : (a b : Bool) (v w : Vec3) → length (cond a (v ∷ []) [] ++ cond (beq a b) [] (w ∷ [])) ≡ edge a b
unfolding edge
two_parts true true v w = refl
two_parts true false v w = refl
two_parts false true v w = refl
two_parts false false v w = refl

counted : (v w : Vec3) → length (clip_edge v w) ≡ edge (above v) (above w)
unfolding clip_edge
counted v w = two_parts (above v) (above w) v (crossing_of v w)

module _ (q : Quad) where
  -- the heights of the corners go up and down by turns
  abbrev pub Alternating : Type 0
  Alternating = Alternate (above q.v0) (above q.v1) (above q.v2) (above q.v3)

  all_counted : length (clipped q) ≡ edges (above q.v0) (above q.v1) (above q.v2) (above q.v3)
  unfolding clipped edges
  all_counted = simp (length-append, counted)

  five_or_six_of : (length (clipped q) ≤ 5) ⊎ ((length (clipped q) ≡ 6) × Alternating)
  five_or_six_of = rw all_counted (five_or_six (above q.v0) (above q.v1) (above q.v2) (above q.v3))

  pub clip_five : length (clip_of q) ≤ 5
  unfolding clip_of
  clip_five = omega (arith, length-take 5 (clipped q))

  pub clipped_six : length (clipped q) ≤ 6
  clipped_six = ⊎_elim (λ h. omega arith) (λ h. omega arith) five_or_six_of

  pub sixth_only : (5 < length (clipped q)) ↔ Alternating
  sixth_only = (
    λ m. ⊎_elim (λ h. absurd (omega arith)) (λ h. h.1) five_or_six_of,
    λ e. rw (all_counted, e.0, e.1, e.2, alternating) (omega arith),
  )
