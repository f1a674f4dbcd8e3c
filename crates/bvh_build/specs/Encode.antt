-- A tree's words in the nodes table: nine to a node, in pre-order.
use Rattle.std.specs.Prelude.{ℕ, suc, ◌+◌, ◌-◌, Bool, ◌&&◌, List, [], ◌∷◌, ◌++◌, nat_lt, slice_set, to_bits, Float}
use Rattle.std.specs.Float.{binary32}
use Rattle.sdf.specs.declared.Aabb.{Aabb}
use Rattle.bvh_rules.specs.Rules.{Tree, leaf, node, size, weight}

abbrev pub word_for : Float → ℕ
word_for x = to_bits binary32 x

abbrev pub node_words : Aabb → ℕ → ℕ → ℕ → List ℕ
node_words b start count right =
    word_for b.lo.x ∷ word_for b.lo.y ∷ word_for b.lo.z ∷
    word_for b.hi.x ∷ word_for b.hi.y ∷ word_for b.hi.z ∷
    start ∷ count ∷ right ∷ []

unfoldable pub encode : Tree → ℕ → ℕ → List ℕ  -- the tree at place `at` whose first leaf starts at s
encode (leaf b c) at s = node_words b s c 0
encode (node b l r) at s =
    node_words b 0 0 (at + 1 + size l) ++ (encode l (at + 1) s ++ encode r (at + 1 + size l) (s + weight l))

unfoldable pub laid : {A : Type 0} → List A → ℕ → List A → List A  -- laid over a list from place i on, to its end
laid xs i [] = xs
laid xs i (v ∷ vs) = laid (slice_set xs i v) (suc i) vs

unfoldable pub low_of : Tree → ℕ → Bool  -- no node of the tree is as deep as k
low_of (leaf b c) k = nat_lt 0 k
low_of (node b l r) k = low_of l (k - 1) && low_of r (k - 1)
