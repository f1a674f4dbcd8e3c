-- Two tables in which a search reads the same give the same hits and the same field: what else they hold is not looked
-- at. Pop by pop where all nodes are alike; where only those that a tree of the objects may have are, both searches are
-- the walk of one tree, since a tree has fewer than two nodes for each object. Assumes nothing.
use Rattle.std.proofs.Common.{◌≡◌, ℕ, zero, suc, ◌+◌, ◌*◌, ◌<◌, ◌≤◌, Bool, true, false, cond, eqb, ◌⊎◌, List, [], ◌∷◌, length, sym, refl, ap, ◌∙◌, inl, inr, arith, eqb-true}
use lib.Ieee.{Float}
use Rattle.vectors.specs.declared.Vec3.{Vec3}
use Rattle.sdf.specs.declared.Aabb.{Aabb}
use Rattle.words.proofs.Runs.{from_same}
use Rattle.refusals.specs.Refusals.{no_tree}
use Rattle.plan.specs.declared.DistHit.{DistHit}
use Rattle.plan.specs.Sections.{objects, nodes_words}
use Rattle.plan.specs.Plan.{Piece, Plan, count_of, plan_of}
use Rattle.plan.specs.Nearest.{nearest, nothing}
use Rattle.bvh_boxes.specs.Boxes.{boxes_of}
use Rattle.bvh_boxes.proofs.Lists.{box_count}
use Rattle.bvh_rules.specs.Nodes.{nodes_of, order_of, node_at}
use Rattle.bvh_rules.specs.Rules.{Tree, leaf, node, size, weight, Stands, Accepted, MeetsRules}
use Rattle.bvh_rules.specs.Check.{judge_of, is_good, standing_number}
use Rattle.bvh_rules.proofs.Trees.{size_weight}
use Rattle.bvh_rules.proofs.Exact.{standing_exact}
use Rattle.bvh_search.specs.declared.Searched.{Searched}
use Rattle.bvh_search.specs.Search.{Turn, on, full, piece_in, leaf_hit, node_dist, pushed, searched}
use Rattle.bvh_search.specs.Search.{turn_of, on_turn, run_of, search_of}
use Rattle.bvh_search.specs.Walk.{Walk, walk_from, visit}
use Rattle.bvh_search.specs.Field.{hit_by, field_by}
use Rattle.bvh_search.proofs.Visit.{answer, search_walks}
use Rattle.bvh_search.proofs.Demand.{search_empty}

-- the nodes that a tree of the plan's objects may have are alike
pub record Trimmed (v w : List ℕ) (f g : List Float) : Type 0 where
  pub few : count_of objects w ≤ 256
  pub long_v : length (nodes_of v) ≡ nodes_words
  pub long_w : length (nodes_of w) ≡ nodes_words
  pub node : (a : ℕ) → a < 2 * count_of objects w → node_at (nodes_of v) (nodes_of f) a ≡ node_at (nodes_of w) (nodes_of g) a

-- what a search reads of a table, as words and as floats
pub record Same (v w : List ℕ) (f g : List Float) : Type 0 where
  pub plan : plan_of v f ≡ plan_of w g
  pub count : count_of objects v ≡ count_of objects w
  pub tree : ((nodes_of v ≡ nodes_of w) × (nodes_of f ≡ nodes_of g)) ⊎ Trimmed v w f g
  pub order : order_of v ≡ order_of w
  pub piece : (i : ℕ) → piece_in v f (order_of w) i ≡ piece_in w g (order_of w) i

module _ (nw : List ℕ) (nf : List Float) (o v w : List ℕ) (f g : List Float) (p : Vec3)
    (same : (i : ℕ) → piece_in v f o i ≡ piece_in w g o i) where
  leaf_same : (s c : ℕ) (best : DistHit) → leaf_hit v f o p s c best ≡ leaf_hit w g o p s c best
  unfolding leaf_hit
  leaf_same s c best =
      ap (λ (os : List Piece). nearest os p best)
      (from_same (piece_in v f o) (piece_in w g o) s s c (λ j _. same (s + j)))

  turn_same : (a : ℕ) (rest : List ℕ) (b : DistHit) → turn_of nw nf o v f p a rest b ≡ turn_of nw nf o w g p a rest b
  unfolding turn_of node_dist pushed
  turn_same a rest b = rw leaf_same

  run_same
      : (fuel : ℕ) (l : List ℕ) (b : DistHit) (k e : ℕ)
      → run_of nw nf o v f p fuel l b k e ≡ run_of nw nf o w g p fuel l b k e
  unfolding run_of
  run_same zero [] b k e = refl
  run_same zero (a ∷ rest) b k e = refl
  run_same (suc fuel) [] b k e = refl
  run_same (suc fuel) (a ∷ rest) b k e =
      ap
      (λ (t : Turn).
      on_turn nw nf o v f p t (λ l h c. run_of nw nf o v f p fuel l h (k + 1) (e + c)) (searched b (k + 1) e false))
      (turn_same a rest b)
      ∙ after (λ l h c. run_same fuel l h (k + 1) (e + c)) (turn_of nw nf o w g p a rest b)
    where
      after
          : ((l : List ℕ) (h : DistHit) (c : ℕ)
          → run_of nw nf o v f p fuel l h (k + 1) (e + c) ≡ run_of nw nf o w g p fuel l h (k + 1) (e + c))
          → (t : Turn)
          → on_turn nw nf o v f p t (λ l h c. run_of nw nf o v f p fuel l h (k + 1) (e + c)) (searched b (k + 1) e false)
          ≡ on_turn nw nf o w g p t (λ l h c. run_of nw nf o w g p fuel l h (k + 1) (e + c)) (searched b (k + 1) e false)
      after go (on l h c) = go l h c
      after go full = refl

-- ---- one tree, walked with two tables
module _ (o v w : List ℕ) (f g : List Float) (p : Vec3)
    (same : (i : ℕ) → piece_in v f o i ≡ piece_in w g o i) where
  visit_same : (t : Tree) (s : ℕ) (σ : Walk) → visit o v f p t s σ ≡ visit o w g p t s σ
  unfolding visit
  visit_same (leaf b c) s σ = rw (leaf_same [] [] o v w f g p same)
  visit_same (node b l r) s σ = rw (visit_same l, visit_same r, visit_same r, visit_same l)

-- ---- two tables of nodes, alike where a tree of the boxes bs may stand
-- the nodes at a tree's places alone say whether it stands there
stands_as
    : (v w : List ℕ) (f g : List Float) (at s : ℕ) (t : Tree)
    → ((a : ℕ) → at ≤ a → a < at + size t → node_at v f a ≡ node_at w g a)
    → Stands v f at s t → Stands w g at s t
stands_as v w f g at s (leaf b c) same h = (sym (same at (omega arith) (omega arith)) ∙ h.0, h.1)
stands_as v w f g at s (node b l r) same h = (
  sym (same at (omega arith) (omega arith)) ∙ h.0,
  stands_as v w f g (at + 1) s l (λ a x y. same a (omega arith) (omega arith)) h.1,
  stands_as v w f g (at + 1 + size l) (s + weight l) r (λ a x y. same a (omega arith) (omega arith)) h.2,
)

module _ (v w : List ℕ) (f g : List Float) (o : List ℕ) (bs : List Aabb)
    (same : (a : ℕ) → a < 2 * length bs → node_at v f a ≡ node_at w g a) where
  accept_as : (t : Tree) → Accepted v f o bs t → Accepted w g o bs t
  accept_as t h =
      let few = size_weight v f 0 0 t h.holds.stands in
      let all = h.holds.all in
      record {
        holds = record {
          stands = stands_as v w f g 0 0 t (λ a x y. same a (omega arith)) h.holds.stands;
          all = all;
          once = h.holds.once;
          boxed = h.holds.boxed;
        };
        low = h.low;
      }

  meets_as : MeetsRules v f o bs → MeetsRules w g o bs
  unfolding MeetsRules
  meets_as (inl none) = inl none
  meets_as (inr h) = inr (h.0, accept_as h.0 h.1)

-- numbers that are 0 together
zero_same
    : (a b : Bool) (n : ℕ) → (cond a 0 n ≡ 0 → cond b 0 n ≡ 0) → (cond b 0 n ≡ 0 → cond a 0 n ≡ 0)
    → cond a 0 n ≡ cond b 0 n
zero_same true true n to from = refl
zero_same true false n to from = sym (to refl)
zero_same false true n to from = from refl
zero_same false false n to from = refl

module _ (v w : List ℕ) (f g : List Float) (o : List ℕ) (bs : List Aabb) (long_v : length v ≡ 4599)
    (long_w : length w ≡ 4599) (few : length bs ≤ 256)
    (same : (a : ℕ) → a < 2 * length bs → node_at v f a ≡ node_at w g a) where
  abbrev back : (a : ℕ) → a < 2 * length bs → node_at w g a ≡ node_at v f a
  back a h = sym (same a h)

  stands_to : standing_number v f o bs ≡ 0 → standing_number w g o bs ≡ 0
  stands_to e =
      (standing_exact w g o bs long_w few).1 (meets_as v w f g o bs same ((standing_exact v f o bs long_v few).0 e))

  stands_from : standing_number w g o bs ≡ 0 → standing_number v f o bs ≡ 0
  stands_from e =
      (standing_exact v f o bs long_v few).1 (meets_as w v g f o bs back ((standing_exact w g o bs long_w few).0 e))

  standing_as : standing_number v f o bs ≡ standing_number w g o bs
  unfolding standing_number
  standing_as =
      zero_same (is_good (judge_of 64 v f o bs)) (is_good (judge_of 64 w g o bs)) no_tree stands_to stands_from

  -- tables x and y, with as many objects as there are boxes
  module _ (x y : List ℕ) (q r : List Float) (p : Vec3) (all-x : length bs ≡ count_of objects x)
      (all-y : length bs ≡ count_of objects y) (piece : (i : ℕ) → piece_in x q o i ≡ piece_in y r o i)
      (bound : DistHit) where
    search_one : (t : Tree) → Accepted w g o bs t → search_of v f o x q p bound ≡ search_of w g o y r p bound
    search_one t h =
        search_walks v f o x q p long_v bs t (accept_as w v g f o bs back t h) few all-x bound
        ∙ ap answer (visit_same o x y q r p piece t 0 (walk_from bound))
        ∙ sym (search_walks w g o y r p long_w bs t h few all-y bound)

    search_by : MeetsRules w g o bs → search_of v f o x q p bound ≡ search_of w g o y r p bound
    unfolding MeetsRules
    search_by (inl none) =
        search_empty v f o x q p bound (sym all-x ∙ none) ∙ sym (search_empty w g o y r p bound (sym all-y ∙ none))
    search_by (inr h) = search_one h.0 h.1

    search_as : standing_number w g o bs ≡ 0 → search_of v f o x q p bound ≡ search_of w g o y r p bound
    search_as e = search_by ((standing_exact w g o bs long_w few).0 e)

-- ---- the two tables of a call
module _ (v w : List ℕ) (f g : List Float) (s : Same v w f g) where
  abbrev bs : List Aabb
  bs = boxes_of (plan_of w g)

  abbrev number : ℕ
  number = standing_number (nodes_of w) (nodes_of g) (order_of w) bs

  few_boxes : Trimmed v w f g → length bs ≤ 256
  few_boxes t = omega (arith, t.few, box_count w g)

  alike
      : Trimmed v w f g → (a : ℕ) → a < 2 * length bs
      → node_at (nodes_of v) (nodes_of f) a ≡ node_at (nodes_of w) (nodes_of g) a
  alike t a h = t.node a (omega (arith, box_count w g))

  Standing-by
      : ((nodes_of v ≡ nodes_of w) × (nodes_of f ≡ nodes_of g)) ⊎ Trimmed v w f g
      → standing_number (nodes_of v) (nodes_of f) (order_of w) bs ≡ number
  Standing-by (inl e) = rw (e.0, e.1)
  Standing-by (inr t) =
      standing_as (nodes_of v) (nodes_of w) (nodes_of f) (nodes_of g) (order_of w) bs t.long_v t.long_w (few_boxes t)
      (alike t)

  pub standing_same
      : standing_number (nodes_of v) (nodes_of f) (order_of v) (boxes_of (plan_of v f))
      ≡ standing_number (nodes_of w) (nodes_of g) (order_of w) (boxes_of (plan_of w g))
  standing_same = rw (s.plan, s.order) (Standing-by s.tree)

  search_same
      : ((nodes_of v ≡ nodes_of w) × (nodes_of f ≡ nodes_of g)) ⊎ Trimmed v w f g → number ≡ 0 → (p : Vec3) (b : DistHit)
      → search_of (nodes_of v) (nodes_of f) (order_of w) v f p b ≡ search_of (nodes_of w) (nodes_of g) (order_of w) w g p b
  unfolding search_of
  search_same (inl e) z p b =
      rw (e.0, e.1, s.count, run_same (nodes_of w) (nodes_of g) (order_of w) v w f g p s.piece)
  search_same (inr t) z p b =
      search_as (nodes_of v) (nodes_of w) (nodes_of f) (nodes_of g) (order_of w) bs t.long_v t.long_w (few_boxes t)
      (alike t) v w f g p (box_count w g ∙ sym s.count) (box_count w g) s.piece b z

  pub hit_same
      : (tree : ℕ)
      → (tree ≡ 1 → standing_number (nodes_of w) (nodes_of g) (order_of w) (boxes_of (plan_of w g)) ≡ 0)
      → (p : Vec3) (b : DistHit) → hit_by tree v f p b ≡ hit_by tree w g p b
  unfolding hit_by
  hit_same tree stands p b = go (eqb tree 1) refl
    where
      go : (x : Bool) → eqb tree 1 ≡ x → hit_by tree v f p b ≡ hit_by tree w g p b
      go true e = rw (e, s.order) (search_same s.tree (stands (eqb-true tree 1 e)) p b)
      go false e = rw (e, s.plan, s.count)

  pub field_same
      : (tree : ℕ)
      → (tree ≡ 1 → standing_number (nodes_of w) (nodes_of g) (order_of w) (boxes_of (plan_of w g)) ≡ 0)
      → (p : Vec3) → field_by tree v f p ≡ field_by tree w g p
  unfolding field_by
  field_same tree stands p =
      ap (λ (x : Plan). (hit_by tree v f p (nearest x.planes p nothing)).hit) s.plan
      ∙ ap (λ (x : Searched). x.hit) (hit_same tree stands p (nearest (plan_of w g).planes p nothing))
