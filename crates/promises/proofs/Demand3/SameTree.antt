-- A tree stands in any tables that have its words and its order's places: by induction on it. Assumes nothing.
use Prim.Native.Nat.{ℕ, ◌+◌, ◌*◌, ◌≤◌, ◌<◌}
use mathlib.Core.Path.{◌≡◌, sym, ◌∙◌, ap, subst}
use mathlib.Core.List.{List}
use native.Mathlib.Omega.{arith}
use lib.Dec.{T}
use lib.ListN.{length}
use lib.Ieee.{Float, binary32, of_bits}
use Rattle.sdf.specs.declared.Aabb.{Aabb}
use Rattle.words.specs.Words.{floats_of}
use Rattle.plan.specs.Sections.{nodes_words}
use Rattle.plan.specs.Records.{word_of, float_of}
use Rattle.bvh_boxes.specs.Boxes.{inside, box_at}
use Rattle.bvh_rules.specs.Nodes.{node_at}
use Rattle.bvh_rules.specs.Rules.{Tree, leaf, node, size, weight, Stands, Boxed, Once, Holds, Accepted}
use Rattle.bvh_rules.proofs.Trees.{stands_fit}
use Rattle.promises.proofs.Tables.{float_word}

-- ---- nodes
node_same
    : (w v : List ℕ) (n m a : ℕ)
    → ((i : ℕ) → i < n → word_of v i ≡ word_of w i)
    → n ≤ m
    → 9 * a + 9 ≤ n
    → node_at v (floats_of v m) a ≡ node_at w (floats_of w m) a
unfolding node_at
node_same w v n m a words fit h =
    let i : ℕ = 9 * a in
    let float : (k : ℕ) → k < n → float_of (floats_of v m) k ≡ float_of (floats_of w m) k
    = λ k l.
    float_word v m k (omega arith) ∙ ap (of_bits binary32) (words k l) ∙ sym (float_word w m k (omega arith)) in
    rw (
      float i (omega arith),
      float (i + 1) (omega arith),
      float (i + 2) (omega arith),
      float (i + 3) (omega arith),
      float (i + 4) (omega arith),
      float (i + 5) (omega arith),
      words (i + 6) (omega arith),
      words (i + 7) (omega arith),
      words (i + 8) (omega arith),
    )

Stands-same
    : (w v : List ℕ) (f g : List Float) (n : ℕ)
    → ((a : ℕ) → a < n → node_at v g a ≡ node_at w f a)
    → (at s : ℕ) (t : Tree)
    → at + size t ≤ n
    → Stands w f at s t
    → Stands v g at s t
Stands-same w v f g n e at s (leaf b c) h p = (e at (omega arith) ∙ p.0, p.1)
Stands-same w v f g n e at s (node b l r) h p = (
  e at (omega arith) ∙ p.0,
  Stands-same w v f g n e (at + 1) s l (omega arith) p.1,
  Stands-same w v f g n e (at + 1 + size l) (s + weight l) r (omega arith) p.2,
)

-- ---- the order
module _ (o u : List ℕ) (bs : List Aabb) (n : ℕ) (places : (i : ℕ) → i < n → word_of u i ≡ word_of o i) where
  boxed_same : (s : ℕ) (t : Tree) → s + weight t ≤ n → Boxed o bs s t → Boxed u bs s t
  boxed_same s (leaf b c) h p = (
    p.0,
    λ i l k. subst (λ (x : ℕ). T (inside (box_at bs x) b)) (sym (places i (omega arith))) (p.1 i l k),
  )
  boxed_same s (node b l r) h p = (
    p.0,
    p.1,
    (boxed_same s l (omega arith) p.2.0, boxed_same (s + weight l) r (omega arith) p.2.1),
  )

  once_same : Once o n → Once u n
  once_same c =
      record {
        below = λ i l. rw (places i l) (c.below i l);
        apart = λ i j l h e. c.apart i j l h (sym (places i (omega arith)) ∙ e ∙ places j h);
      }

-- ---- a whole tree
module _ (w v o u : List ℕ) (bs : List Aabb) (t : Tree) (lw : length w ≡ nodes_words)
    (words : (i : ℕ) → i < 9 * size t → word_of v i ≡ word_of w i)
    (places : (i : ℕ) → i < length bs → word_of u i ≡ word_of o i)
  where
    holds_same : Holds w (floats_of w nodes_words) o bs t → Holds v (floats_of v nodes_words) u bs t
    holds_same h =
        let fit = stands_fit w (floats_of w nodes_words) lw 0 0 t h.stands in
        let all : weight t ≡ length bs = h.all in
        record {
          stands =
              Stands-same w v (floats_of w nodes_words) (floats_of v nodes_words) (size t)
              (λ a l. node_same w v (9 * size t) nodes_words a words (omega arith) (omega arith))
              0 0 t (omega arith) h.stands;
          all = all;
          once = once_same o u bs (length bs) places h.once;
          boxed = boxed_same o u bs (length bs) places 0 t (omega arith) h.boxed;
        }

    pub accepted_same : Accepted w (floats_of w nodes_words) o bs t → Accepted v (floats_of v nodes_words) u bs t
    accepted_same h = record { holds = holds_same h.holds; low = h.low }
