-- "The search pops, skips a node whose box distance is at least the present best, and pushes the farther child first,
-- the left child when equal. It reports nodes popped and objects evaluated."
use Rattle.std.specs.Prelude.{ℕ, zero, suc, ◌+◌, ◌-◌, min, Bool, true, false, cond, List, [], ◌∷◌, length, ◌==◌, nat_lt, Float}
use Rattle.std.specs.Float.Ieee.{lt, le}
use Rattle.vectors.specs.declared.Vec3.{Vec3}
use Rattle.sdf.specs.Boxes.{box_dist}
use Rattle.words.specs.Lists.{list_from}
use Rattle.plan.specs.declared.DistHit.{DistHit}
use Rattle.plan.specs.Sections.{objects, order_places}
use Rattle.plan.specs.Records.{word_of}
use Rattle.plan.specs.Plan.{Piece, piece_at, count_of}
use Rattle.plan.specs.Nearest.{nearest}
use Rattle.bvh_rules.specs.declared.Node.{Node}
use Rattle.bvh_rules.specs.Nodes.{nodes_most, node_at}
use Rattle.bvh_search.specs.declared.Scan.{Scan}
use Rattle.bvh_search.specs.declared.Searched.{Searched}

unfoldable pub piece_in : List ℕ → List Float → List ℕ → ℕ → Piece  -- the object at place i of the order
piece_in w f o i = piece_at w f (objects.first + word_of o i)

unfoldable pub leaf_hit : List ℕ → List Float → List ℕ → Vec3 → ℕ → ℕ → DistHit → DistHit
leaf_hit w f o p s c best = nearest (list_from (piece_in w f o) s c) p best  -- of c objects from place s on

abbrev pub leaf_scan : List ℕ → List Float → List ℕ → Vec3 → ℕ → ℕ → DistHit → Scan
leaf_scan w f o p s c best = record { hit = leaf_hit w f o p s c best; evaluated = c }  -- and how many these are

unfoldable pub places_of : Node → ℕ  -- as many of a leaf's places as the order table has
places_of v = min v.count (order_places - v.start)

-- what a pop comes to: the stack, the hit, how many objects more were evaluated; or 64 places with no room for two
pub data Turn : Type 0 where
  on : List ℕ → DistHit → ℕ → Turn
  full : Turn

abbrev pub on_scan : List ℕ → Scan → Turn
on_scan rest x = on rest x.hit x.evaluated

abbrev pub searched : DistHit → ℕ → ℕ → Bool → Searched
searched b k e whole = record { hit = b; popped = k; evaluated = e; whole = whole }

-- nodes nw and nf, order o, a plan's words w and f, and the point p
module _ (nw : List ℕ) (nf : List Float) (o : List ℕ) (w : List ℕ) (f : List Float) (p : Vec3) where
  unfoldable pub node_dist : ℕ → Float
  node_dist a = box_dist p (node_at nw nf a).hull

  unfoldable pub pushed : ℕ → ℕ → List ℕ → List ℕ  -- the farther child first, the left one when equal
  pushed l r rest = cond (lt (node_dist l) (node_dist r)) (l ∷ r ∷ rest) (r ∷ l ∷ rest)

  unfoldable pub turn_of : ℕ → List ℕ → DistHit → Turn  -- a place past the table is popped and nothing more
  turn_of a rest b =
      cond (le b.d (node_dist a)) (on rest b 0)
      (cond (nat_lt a nodes_most)
      (cond ((node_at nw nf a).count == 0)
      (cond (nat_lt 62 (length rest)) full (on (pushed (a + 1) (node_at nw nf a).right rest) b 0))
      (on_scan rest (leaf_scan w f o p (node_at nw nf a).start (places_of (node_at nw nf a)) b)))
      (on rest b 0))

  abbrev pub on_turn : Turn → (List ℕ → DistHit → ℕ → Searched) → Searched → Searched
  on_turn (on rest b c) go stop = go rest b c
  on_turn full go stop = stop

  -- at most `fuel` pops, with the stack of waiting nodes; not whole where the fuel or the room ran out
  unfoldable pub run_of : ℕ → List ℕ → DistHit → ℕ → ℕ → Searched
  run_of zero [] b k e = searched b k e true
  run_of zero (a ∷ rest) b k e = searched b k e false
  run_of (suc fuel) [] b k e = searched b k e true
  run_of (suc fuel) (a ∷ rest) b k e =
      on_turn (turn_of a rest b) (λ l h c. run_of fuel l h (k + 1) (e + c)) (searched b (k + 1) e false)

  unfoldable pub search_of : DistHit → Searched  -- with no objects nothing is popped
  search_of bound = cond (count_of objects w == 0) (searched bound 0 0 true) (run_of nodes_most (0 ∷ []) bound 0 0)
