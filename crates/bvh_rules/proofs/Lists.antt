-- What the loops over objects and over the order need at their start, at a turn and at their end, and where a node's
-- words lie in a call's table and what lies past the last, by the laws of a part of a list. Assumes nothing.
use Prim.Native.Nat.{ℕ, suc, ◌+◌, ◌-◌, ◌*◌, ◌≤◌, ◌<◌}
use mathlib.Core.Path.{◌≡◌, refl, sym}
use mathlib.Core.Bool.{Bool, true, false, ◌&&◌}
use mathlib.Core.List.{List, [], ◌∷◌, ◌++◌}
use native.Mathlib.Numerals.{add-one}
use native.Mathlib.Nat.{sub-zero}
use native.Mathlib.Omega.{arith}
use lib.ListN.{length, get_or, set, replicate, take, drop, length-take, length-drop, get_or-eq_default}
use lib.Seq.{get_or-drop, get_or-take}
use lib.Ieee.{Float, nan}
use borrow.Author.Tests.{lt-ltb, le-ltb, le-leb, lt-leb}
use Rattle.sdf.specs.declared.Aabb.{Aabb}
use Rattle.words.specs.Lists.{list_from}
use Rattle.words.proofs.Laws.{past_end}
use Rattle.words.proofs.Runs.{from_snoc}
use Rattle.plan.specs.Sections.{nodes_first, order_first, table_words, nodes_words, order_places}
use Rattle.plan.specs.Records.{word_of, float_of}
use Rattle.bvh_boxes.specs.Boxes.{no_box}
use Rattle.bvh_rules.specs.declared.Node.{Node}
use Rattle.bvh_rules.specs.Nodes.{nodes_most, nodes_of, order_of, node_at}
use Rattle.bvh_rules.specs.Inside.Steps.{every, held_at, holds_all, marks_of, order_ok}

-- ---- the boxes of a leaf's objects
every_snoc : (so : Bool) (bs : List Bool) (b : Bool) → every so (bs ++ (b ∷ [])) ≡ every so bs && b
unfolding every
every_snoc so [] b = refl
every_snoc so (x ∷ bs) b = every_snoc (so && x) bs b

module _ (o : List ℕ) (bs : List Aabb) (b : Aabb) (start : ℕ) where
  pub holds_none : true ≡ holds_all o bs b start 0
  unfolding holds_all list_from every
  holds_none = refl

  pub holds_more : (j : ℕ) → holds_all o bs b start (j + 1) ≡ holds_all o bs b start j && held_at o bs b (start + j)
  unfolding holds_all
  holds_more j = rw (add-one, from_snoc (held_at o bs b) start j, every_snoc)

-- ---- a part of a table
part_at
    : {A : Type 0} (t : List A) (from n i : ℕ) (d : A) → i < n
    → get_or (take n (drop from t)) i d ≡ get_or t (from + i) d
part_at t from n i d h = rw (get_or-take, get_or-drop)

part_length : {A : Type 0} (t : List A) (from n : ℕ) → length (take n (drop from t)) ≤ n
part_length t from n = simp length-take (omega arith)

pub nodes_few : {A : Type 0} (t : List A) → length (nodes_of t) ≤ nodes_words
unfolding nodes_of
nodes_few t = part_length t nodes_first nodes_words

pub nodes_length : {A : Type 0} (t : List A) → length t ≡ table_words → length (nodes_of t) ≡ nodes_words
unfolding nodes_of
nodes_length t l = simp (length-take, length-drop) (omega arith)

pub order_length : {A : Type 0} (t : List A) → length t ≡ table_words → length (order_of t) ≡ order_places
unfolding order_of
order_length t l = simp (length-take, length-drop) (omega arith)

pub order_here : (t : List ℕ) (i : ℕ) → i < order_places → word_of (order_of t) i ≡ word_of t (order_first + i)
unfolding order_of
order_here t i h = part_at t order_first order_places i 0 h

pub order_past : (t : List ℕ) (i : ℕ) → order_places ≤ i → 0 ≡ word_of (order_of t) i
unfolding order_of
order_past t i h =
    sym (get_or-eq_default (take order_places (drop order_first t)) 0
    (omega (arith, part_length t order_first order_places)))

-- a node whose words start at i
abbrev pub node_from : List ℕ → List Float → ℕ → Node
node_from w f i =
    record {
      hull = record {
        lo = record { x = float_of f i; y = float_of f (i + 1); z = float_of f (i + 2) };
        hi = record { x = float_of f (i + 3); y = float_of f (i + 4); z = float_of f (i + 5) };
      };
      start = word_of w (i + 6);
      count = word_of w (i + 7);
      right = word_of w (i + 8);
    }

-- the nodes' words lie in the table from their first place on
module _ (w nw : List ℕ) (f nf : List Float) (from at : ℕ)
    (words : (i : ℕ) → i < nodes_words → word_of nw i ≡ word_of w (from + i))
    (floats : (i : ℕ) → i < nodes_words → float_of nf i ≡ float_of f (from + i))
  where
    node_from_lem : at < nodes_most → node_at nw nf at ≡ node_from w f (from + 9 * at)
    unfolding node_at
    node_from_lem h =
        let i : ℕ = 9 * at in
        let by : (k : ℕ) → from + (i + k) ≡ from + i + k = λ k. omega arith in
        rw (
          floats i (omega arith),
          floats (i + 1) (omega arith),
          floats (i + 2) (omega arith),
          floats (i + 3) (omega arith),
          floats (i + 4) (omega arith),
          floats (i + 5) (omega arith),
          words (i + 6) (omega arith),
          words (i + 7) (omega arith),
          words (i + 8) (omega arith),
          by 1,
          by 2,
          by 3,
          by 4,
          by 5,
          by 6,
          by 7,
          by 8,
        )

pub node_here
    : (w : List ℕ) (f : List Float) (at : ℕ) → at < nodes_most
    → node_at (nodes_of w) (nodes_of f) at ≡ node_from w f (nodes_first + 9 * at)
unfolding nodes_of
node_here w f at h =
    node_from_lem w (take nodes_words (drop nodes_first w)) f (take nodes_words (drop nodes_first f)) nodes_first at
    (λ i l. part_at w nodes_first nodes_words i 0 l) (λ i l. part_at f nodes_first nodes_words i nan l) h

-- ---- past the ends
abbrev pub no_node : Node
no_node = record { hull = no_box; start = 0; count = 0; right = 0 }

module _ (w : List ℕ) (f : List Float) (lw : length w ≤ nodes_words) where
  pub words_past : (at : ℕ) → nodes_most ≤ at → ((node_at w f at).count ≡ 0) × ((node_at w f at).right ≡ 0)
  unfolding node_at
  words_past at h = (past_end w 0 nodes_words (9 * at + 7) lw (omega arith), past_end w 0 nodes_words (9 * at + 8) lw (omega arith))

  node_past : length f ≤ nodes_words → (at : ℕ) → nodes_most ≤ at → node_at w f at ≡ no_node
  unfolding node_at
  node_past lf at h =
      let i : ℕ = 9 * at in
      rw (
        past_end f nan nodes_words i lf (omega arith),
        past_end f nan nodes_words (i + 1) lf (omega arith),
        past_end f nan nodes_words (i + 2) lf (omega arith),
        past_end f nan nodes_words (i + 3) lf (omega arith),
        past_end f nan nodes_words (i + 4) lf (omega arith),
        past_end f nan nodes_words (i + 5) lf (omega arith),
        past_end w 0 nodes_words (i + 6) lw (omega arith),
        past_end w 0 nodes_words (i + 7) lw (omega arith),
        past_end w 0 nodes_words (i + 8) lw (omega arith),
      )

pub node_none
    : (w : List ℕ) (f : List Float) (at : ℕ) → nodes_most ≤ at → node_at (nodes_of w) (nodes_of f) at ≡ no_node
node_none w f at h = node_past (nodes_of w) (nodes_of f) (nodes_few w) (nodes_few f) at h

-- ---- the order table: what is left to mark of n places from place i on
module _ (o : List ℕ) (n i : ℕ) (seen : List Bool) where
  pub marks_end : n ≤ i → marks_of o n (n - i) i seen ≡ true
  unfolding marks_of
  marks_end h = let z : n - i ≡ 0 = omega arith in rw z

  module _ (h : i < n) where
    next : n - i ≡ suc (n - (i + 1))
    next = omega arith

    module _ (x : ℕ) (e : x ≡ word_of o i) where
      pub marks_high : n ≤ x → marks_of o n (n - i) i seen ≡ false
      unfolding marks_of
      marks_high g = rw (next, sym e) (simp (le-ltb x n g))

      pub marks_twice : x < n → get_or seen x false ≡ true → marks_of o n (n - i) i seen ≡ false
      unfolding marks_of
      marks_twice g s = rw (next, sym e) (simp (lt-ltb x n g, s))

      pub marks_step
          : x < n → get_or seen x false ≡ false
          → marks_of o n (n - i) i seen ≡ marks_of o n (n - (i + 1)) (i + 1) (set seen x true)
      unfolding marks_of
      marks_step g s = rw (next, sym e) (simp (lt-ltb x n g, s))

pub order_few : (o : List ℕ) (n : ℕ) → n ≤ 256 → order_ok o n ≡ marks_of o n (n - 0) 0 (replicate 256 false)
unfolding order_ok
order_few o n h = simp (le-leb n 256 h, sub-zero)

pub order_many : (o : List ℕ) (n : ℕ) → 256 < n → false ≡ order_ok o n
unfolding order_ok
order_many o n h = simp (lt-leb n 256 h)
