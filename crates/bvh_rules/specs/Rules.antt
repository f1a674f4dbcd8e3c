-- The tree rules, clause by clause.
use Rattle.std.specs.Prelude.{ℕ, ◌+◌, ◌≤◌, ◌<◌, max, ◌≡◌, ◌⊎◌, List, length, T, Float}
use Rattle.sdf.specs.declared.Aabb.{Aabb}
use Rattle.plan.specs.Records.{word_of}
use Rattle.bvh_boxes.specs.Boxes.{finite_box, inside, box_at}
use Rattle.bvh_rules.specs.Nodes.{node_at, inner_node, leaf_node}

pub data Tree : Type 0 where  -- a leaf over c places of the order table, or a node over two trees; each has its box
  leaf : Aabb → ℕ → Tree
  node : Aabb → Tree → Tree → Tree

abbrev pub hull : Tree → Aabb
hull (leaf b c) = b
hull (node b l r) = b

abbrev pub size : Tree → ℕ  -- how many nodes
size (leaf b c) = 1
size (node b l r) = 1 + size l + size r

abbrev pub weight : Tree → ℕ  -- how many places of the order table
weight (leaf b c) = c
weight (node b l r) = weight l + weight r

abbrev pub place : ℕ → ℕ  -- a place of the order as itself: `list_from place s n` are n places from s on
place i = i

abbrev pub depth : Tree → ℕ  -- "Depth: the root is at 0"
depth (leaf b c) = 0
depth (node b l r) = 1 + max (depth l) (depth r)

-- "Nodes lie in pre-order: an interior node has count 0, start 0, its left child at the next place and `right` at the
-- first place after the left subtree. A leaf has count above 0 and right 0, and its start is where the leaf before it
-- ended." The tree stands at place `at`, its first leaf starts at s.
abbrev pub Stands : List ℕ → List Float → ℕ → ℕ → Tree → Type 0
Stands w f at s (leaf b c) = (node_at w f at ≡ leaf_node b s c) × (0 < c)
Stands w f at s (node b l r) =
    (node_at w f at ≡ inner_node b (at + 1 + size l))
    × Stands w f (at + 1) s l × Stands w f (at + 1 + size l) (s + weight l) r

-- "All corners are finite; each child's box lies within its parent's, each object's box within its leaf's."
abbrev pub Boxed : List ℕ → List Aabb → ℕ → Tree → Type 0
Boxed o bs s (leaf b c) = T (finite_box b) × ((i : ℕ) → s ≤ i → i < s + c → T (inside (box_at bs (word_of o i)) b))
Boxed o bs s (node b l r) =
    T (finite_box b) × (T (inside (hull l) b) × T (inside (hull r) b)) × (Boxed o bs s l × Boxed o bs (s + weight l) r)

pub record Once (o : List ℕ) (n : ℕ) : Type 0 where  -- "The order table holds each object once."
  pub below : (i : ℕ) → i < n → word_of o i < n
  pub apart : (i j : ℕ) → i < j → j < n → word_of o i ≡ word_of o j → ⊥

-- every rule but depth: nodes w, f and order o hold the tree t for objects with the boxes bs, at least one
pub record Holds (w : List ℕ) (f : List Float) (o : List ℕ) (bs : List Aabb) (t : Tree) : Type 0 where
  pub stands : Stands w f 0 0 t
  pub all : weight t ≡ length bs
  pub once : Once o (length bs)
  pub boxed : Boxed o bs 0 t

pub record Accepted (w : List ℕ) (f : List Float) (o : List ℕ) (bs : List Aabb) (t : Tree) : Type 0 where
  pub holds : Holds w f o bs t
  pub low : depth t ≤ 63  -- "no node is deeper than 63"

unfoldable pub MeetsRules : List ℕ → List Float → List ℕ → List Aabb → Type 0  -- "No objects: no nodes"
MeetsRules w f o bs = (length bs ≡ 0) ⊎ ((t : Tree) × Accepted w f o bs t)
