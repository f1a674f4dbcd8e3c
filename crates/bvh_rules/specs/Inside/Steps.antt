-- How the checker walks: the nodes in pre-order with a number of levels left, and the order.
use Rattle.std.specs.Prelude.{ℕ, zero, suc, ◌+◌, ◌-◌, Bool, true, false, cond, ◌&&◌, Option, Some, None, List, [], ◌∷◌, length, get_or, set, replicate, leb, ltb, eqb, Float}
use Rattle.sdf.specs.declared.Aabb.{Aabb}
use Rattle.words.specs.Lists.{list_from}
use Rattle.plan.specs.Records.{word_of}
use Rattle.bvh_boxes.specs.Boxes.{finite_box, inside, box_at}
use Rattle.bvh_rules.specs.declared.Node.{Node}
use Rattle.bvh_rules.specs.declared.Kind.{Kind}
use Rattle.bvh_rules.specs.declared.Kind.TheVariants.{Leaf, Inner}
use Rattle.bvh_rules.specs.declared.Sub.{Sub}
use Rattle.plan.specs.Sections.{order_places}
use Rattle.bvh_rules.specs.Nodes.{nodes_most, node_at}

unfoldable pub every : Bool → List Bool → Bool
every so [] = so
every so (b ∷ bs) = every (so && b) bs

unfoldable pub held_at : List ℕ → List Aabb → Aabb → ℕ → Bool
held_at o bs b i = inside (box_at bs (word_of o i)) b  -- whether the object at place i of the order lies within b

unfoldable pub holds_all : List ℕ → List Aabb → Aabb → ℕ → ℕ → Bool
holds_all o bs b start count = every true (list_from (held_at o bs b) start count)

-- a leaf's own words, where the leaf before it ended at start and there are n objects
unfoldable pub leaf_words : Node → ℕ → ℕ → Bool
leaf_words v n start = (eqb v.right 0 && eqb v.start start) && (leb start n && leb v.count (n - start))

unfoldable pub leaf_ok : List ℕ → List Aabb → Node → ℕ → Bool
leaf_ok o bs v start = cond (leaf_words v (length bs) start) (holds_all o bs v.hull start v.count) false

unfoldable pub hull_ok : Aabb → Aabb → ℕ → Bool
hull_ok b outer at = ltb at nodes_most && (finite_box b && inside b outer)

-- what a node is that stands at place `at` under a node whose box is outer: a leaf with the next place and its end, or
-- an interior node with its children
unfoldable pub kind_of : List ℕ → List Aabb → Node → Aabb → ℕ → ℕ → Option Kind
kind_of o bs v outer at start =
    cond (hull_ok v.hull outer at)
    (cond (eqb v.count 0)
    (cond (eqb v.start 0) (Some (Inner (at + 1) v.right)) None)
    (cond (leaf_ok o bs v start) (Some (Leaf (at + 1) (start + v.count))) None))
    None

-- go on with the right part where the left one was good and ended where `right` says
abbrev pub then : Option Sub → ℕ → (ℕ → ℕ → Option Sub) → Option Sub
then None right f = None
then (Some s) right f = cond (eqb right s.next) (f s.next s.ends) None

abbrev pub on_kind : Option Kind → (ℕ → ℕ → Option Sub) → Option Sub
on_kind None f = None
on_kind (Some (Leaf next end)) f = Some (record { next = next; ends = end })
on_kind (Some (Inner left right)) f = f left right

-- the subtree at place `at` whose first leaf must start at `start`, with so many levels left: the first place after it
-- and where its last leaf ends
unfoldable pub check_of : ℕ → List ℕ → List Float → List ℕ → List Aabb → Aabb → ℕ → ℕ → Option Sub
check_of zero w f o bs outer at start = None
check_of (suc level) w f o bs outer at start =
    on_kind (kind_of o bs (node_at w f at) outer at start)
    (λ left right.
    then (check_of level w f o bs (node_at w f at).hull left start) right
    (λ next end. check_of level w f o bs (node_at w f at).hull next end))

-- ---- the order table: k more places from i on, each below n and not seen before
unfoldable pub marks_of : List ℕ → ℕ → ℕ → ℕ → List Bool → Bool
marks_of o n zero i seen = true
marks_of o n (suc k) i seen =
    cond (ltb (word_of o i) n)
    (cond (get_or seen (word_of o i) false) false (marks_of o n k (i + 1) (set seen (word_of o i) true)))
    false

unfoldable pub order_ok : List ℕ → ℕ → Bool
order_ok o n = cond (leb n order_places) (marks_of o n n 0 (replicate order_places false)) false

-- ---- the whole tree, which must end with the last object
abbrev pub whole_of : Option Sub → ℕ → Option Sub
whole_of None n = None
whole_of (Some s) n = cond (eqb s.ends n) (Some s) None
