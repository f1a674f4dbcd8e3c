-- What holds of every search of an accepted tree: "the search never needs a 65th place, its two counts are document
-- 01's, its answer is the least by value of the starting bound and those distances worked out that are numbers, and
-- every piece passed over lies under a box worked out to be no nearer than that answer". Definitions only; the theorem
-- is `demand_met` of proofs/Demand.antt.
use Rattle.std.specs.Prelude.{◌≡◌, ℕ, ◌+◌, ◌<◌, ◌≤◌, true, T, ◌⊎◌, List, [], ◌∷◌, length, Float}
use Rattle.std.specs.Float.Ieee.{le, eq}
use Rattle.vectors.specs.declared.Vec3.{Vec3}
use Rattle.plan.specs.declared.DistHit.{DistHit}
use Rattle.plan.specs.Nearest.{piece_dist}
use Rattle.bvh_rules.specs.Rules.{Tree, weight}
use Rattle.bvh_search.specs.declared.Searched.{Searched}
use Rattle.bvh_search.specs.Search.{piece_in}
use Rattle.bvh_search.specs.Walk.{Passed, Walk, walk_from, near, visit}

abbrev pub In : {A : Type 0} → A → List A → Type 0
In a [] = ⊥
In a (x ∷ xs) = (a ≡ x) ⊎ In a xs

module _ (o : List ℕ) (w : List ℕ) (f : List Float) (p : Vec3) where
  abbrev pub dist : ℕ → Float  -- the distance of the object at place i of the order
  dist i = piece_dist (piece_in w f o i) p

  abbrev pub Number : Float → Type 0  -- only a NaN differs from itself
  Number x = T (eq x x)

  -- d is the least, by value, of the bound and of those distances at the places seen that are numbers
  pub record Least (d bound : Float) (seen : List ℕ) : Type 0 where
    pub one : (d ≡ bound) ⊎ ((i : ℕ) × In i seen × (d ≡ dist i))
    pub bounded : T (le d bound)
    pub below : (i : ℕ) → In i seen → Number (dist i) → T (le d (dist i))

  -- place i lies under a box that was passed over, and that is no nearer than d
  pub record Over (d : Float) (passed : List Passed) (i : ℕ) : Type 0 where
    pub box : Passed
    pub was : In box passed
    pub from : box.first ≤ i
    pub to : i < box.first + weight box.under
    pub farther : T (le d (near o w f p box.under))

  -- the search's answer a on the tree t, from a bound
  pub record Demand (t : Tree) (bound : DistHit) (a : Searched) : Type 0 where
    pub walk : Walk
    pub walked : walk ≡ visit o w f p t 0 (walk_from bound)
    pub room : a.whole ≡ true
    pub hit : a.hit ≡ walk.best
    pub popped : a.popped ≡ walk.popped
    pub evaluated : a.evaluated ≡ length walk.seen
    pub least : Least a.hit.d bound.d walk.seen
    pub over : (i : ℕ) → i < weight t → In i walk.seen ⊎ Over a.hit.d walk.passed i
