-- A leaf's places and the loop over its objects: at its start and at a turn. By one more at the end of a list. Assumes
-- nothing.
use Rattle.std.proofs.Common.{◌≡◌, ℕ, ◌+◌, ◌≤◌, List, refl, add-one, arith}
use lib.Ieee.{Float}
use Rattle.vectors.specs.declared.Vec3.{Vec3}
use Rattle.words.specs.Lists.{list_from}
use Rattle.words.proofs.Runs.{from_snoc}
use Rattle.plan.specs.declared.DistHit.{DistHit}
use Rattle.plan.specs.Nearest.{hit_of, closer, nearest}
use Rattle.plan.proofs.Lists.{nearest_snoc}
use Rattle.bvh_rules.specs.declared.Node.{Node}
use Rattle.bvh_search.specs.Search.{piece_in, leaf_hit, places_of}

pub places_few : (v : Node) → places_of v ≤ 256
unfolding places_of
places_few v = omega arith

module _ (w : List ℕ) (f : List Float) (o : List ℕ) (p : Vec3) (s : ℕ) (best : DistHit) where
  pub hit_none : best ≡ leaf_hit w f o p s 0 best
  unfolding leaf_hit list_from nearest
  hit_none = refl

  pub hit_more
      : (j : ℕ) → leaf_hit w f o p s (j + 1) best ≡ closer (leaf_hit w f o p s j best)
      (hit_of (piece_in w f o (s + j)) p)
  unfolding leaf_hit
  hit_more j = rw (add-one, from_snoc (piece_in w f o) s j, nearest_snoc)
