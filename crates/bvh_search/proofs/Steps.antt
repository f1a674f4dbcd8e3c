-- How a law of the walk is shown: by the ways that the tests of one node can come out, and induction on the tree. And
-- the first such law: each node is popped, and each place seen, at most once. Assumes nothing.
use Rattle.std.proofs.Common.{◌≡◌, ℕ, ◌+◌, ◌≤◌, Bool, true, false, cond, T, List, ◌++◌, length, refl, arith, length-append}
use lib.Ieee.{Float, lt, le}
use Rattle.vectors.specs.declared.Vec3.{Vec3}
use Rattle.sdf.specs.declared.Aabb.{Aabb}
use Rattle.sdf.specs.Boxes.{box_dist}
use Rattle.words.specs.Lists.{list_from}
use Rattle.words.proofs.Runs.{length_from}
use Rattle.float_order.proofs.Order.{yes_of}
use Rattle.bvh_rules.specs.Rules.{Tree, leaf, node, size, weight, place}
use Rattle.bvh_search.specs.Walk.{Walk, near, more, skip, evaluate, visit}

pub length_seen : (seen : List ℕ) (s c : ℕ) → length (seen ++ list_from place s c) ≡ length seen + c
length_seen seen s c = rw (length-append, length_from place s c)

module _ (o : List ℕ) (w : List ℕ) (f : List Float) (p : Vec3) where
  abbrev walk : Tree → ℕ → Walk → Walk
  walk = visit o w f p

  -- ---- what holds however the tests of a node come out
  module _ (P : Walk → Type 0) (s : ℕ) (σ : Walk) where
    pub at_leaf
        : (b : Aabb) (c : ℕ) → (T (le σ.best.d (box_dist p b)) → P (skip o w f p (leaf b c) s σ))
        → P (evaluate o w f p s c σ) → P (walk (leaf b c) s σ)
    unfolding visit
    at_leaf b c far here = go (le σ.best.d (box_dist p b)) refl
      where
        go
            : (x : Bool) → le σ.best.d (box_dist p b) ≡ x
            → P (cond x (skip o w f p (leaf b c) s σ) (evaluate o w f p s c σ))
        go true e = far (yes_of e)
        go false e = here

    pub at_node
        : (b : Aabb) (l r : Tree) → (T (le σ.best.d (box_dist p b)) → P (skip o w f p (node b l r) s σ))
        → P (walk r (s + weight l) (walk l s (more o w f p σ))) → P
        (walk l s (walk r (s + weight l) (more o w f p σ)))
        → P (walk (node b l r) s σ)
    unfolding visit
    at_node b l r far left right = go (le σ.best.d (box_dist p b)) refl (lt (near o w f p l) (near o w f p r))
      where
        go
            : (x : Bool) → le σ.best.d (box_dist p b) ≡ x → (y : Bool)
            → P (cond x (skip o w f p (node b l r) s σ)
            (cond y (walk r (s + weight l) (walk l s (more o w f p σ)))
            (walk l s (walk r (s + weight l) (more o w f p σ)))))
        go true e y = far (yes_of e)
        go false e true = left
        go false e false = right

  -- what each step keeps, a walk keeps
  module _ (P : Walk → Type 0)
      (skips : (t : Tree) (s : ℕ) (σ : Walk) → T (le σ.best.d (near o w f p t)) → P σ → P
      (skip o w f p t s σ))
      (evaluates : (s c : ℕ) (σ : Walk) → P σ → P (evaluate o w f p s c σ))
      (opens : (σ : Walk) → P σ → P (more o w f p σ)) where
    pub keeps : (t : Tree) (s : ℕ) (σ : Walk) → P σ → P (walk t s σ)
    keeps (leaf b c) s σ h = at_leaf P s σ b c (λ e. skips (leaf b c) s σ e h) (evaluates s c σ h)
    keeps (node b l r) s σ h =
        let σ-l = walk l s (more o w f p σ) in
        let σ-r = walk r (s + weight l) (more o w f p σ) in
        at_node P s σ b l r
        (λ e. skips (node b l r) s σ e h)
        (keeps r (s + weight l) σ-l (keeps l s (more o w f p σ) (opens σ h)))
        (keeps l s σ-r (keeps r (s + weight l) (more o w f p σ) (opens σ h)))

  -- ---- each node is popped, and each place seen, at most once
  pub record Counts (t : Tree) (σ σ' : Walk) : Type 0 where
    pub pops : σ'.popped ≤ σ.popped + size t
    pub evals : length σ'.seen ≤ length σ.seen + weight t

  counts_then
      : (b : Aabb) (l r x y : Tree) (σ τ υ : Walk) → size x + size y ≡ size l + size r
      → weight x + weight y ≡ weight l + weight r → Counts x (more o w f p σ) τ → Counts y τ υ → Counts
      (node b l r) σ υ
  counts_then b l r x y σ τ υ e g h k =
      record { pops = omega (arith, h.pops, k.pops); evals = omega (arith, h.evals, k.evals) }

  pub counts : (t : Tree) (s : ℕ) (σ : Walk) → Counts t σ (visit o w f p t s σ)
  counts (leaf b c) s σ =
      at_leaf (Counts (leaf b c) σ) s σ b c
      (λ _. record { pops = omega arith; evals = omega arith })
      (record { pops = omega arith; evals = omega (arith, length_seen σ.seen s c) })
  counts (node b l r) s σ =
      let σ-l = walk l s (more o w f p σ) in
      let σ-r = walk r (s + weight l) (more o w f p σ) in
      at_node (Counts (node b l r) σ) s σ b l r
      (λ _. record { pops = omega arith; evals = omega arith })
      (counts_then b l r l r σ σ-l (walk r (s + weight l) σ-l) refl refl (counts l s (more o w f p σ))
      (counts r (s + weight l) σ-l))
      (counts_then b l r r l σ σ-r (walk l s σ-r) (omega arith) (omega arith)
      (counts r (s + weight l) (more o w f p σ)) (counts l s σ-r))
