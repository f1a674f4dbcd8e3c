-- On an accepted tree the run over the stack is the walk of the tree: the stack never needs a 65th place, and 511 pops
-- are enough. By induction on the tree: a run that has the tree on top of its stack goes on with what waited below, and
-- one pop for each node of the tree at most is gone. Assumes nothing.
use Rattle.std.proofs.Common.{◌≡◌, ℕ, zero, suc, ◌+◌, ◌-◌, ◌<◌, ◌≤◌, min, Bool, true, false, cond, List, [], ◌∷◌, length, refl, ◌∙◌, add-zero, arith, le-ltb, lt-ltb, ne_eqb}
use lib.Ieee.{Float, lt, le}
use Rattle.vectors.specs.declared.Vec3.{Vec3}
use Rattle.sdf.specs.declared.Aabb.{Aabb}
use Rattle.sdf.specs.Boxes.{box_dist}
use Rattle.plan.specs.declared.DistHit.{DistHit}
use Rattle.plan.specs.Sections.{objects}
use Rattle.plan.specs.Plan.{count_of}
use Rattle.bvh_rules.specs.Nodes.{node_at, leaf_node, inner_node}
use Rattle.bvh_rules.specs.Rules.{Tree, leaf, node, size, weight, depth, Stands, Accepted}
use Rattle.bvh_rules.proofs.Trees.{weight_above, stands_fit, stands_below}
use Rattle.bvh_search.specs.declared.Searched.{Searched}
use Rattle.bvh_search.specs.Search.{leaf_hit, places_of, Turn, on, searched, node_dist, pushed, turn_of, run_of}
use Rattle.bvh_search.specs.Search.{search_of}
use Rattle.bvh_search.specs.Walk.{Walk, walk_from, near, more, skip, visit}
use Rattle.bvh_search.proofs.Steps.{length_seen}

-- what a walk answers
abbrev pub answer : Walk → Searched
answer σ = searched σ.best σ.popped (length σ.seen) true

module _ (nw : List ℕ) (nf : List Float) (o : List ℕ) (w : List ℕ) (f : List Float) (p : Vec3) where
  abbrev run : ℕ → List ℕ → Walk → Searched
  run fuel stack σ = run_of nw nf o w f p fuel stack σ.best σ.popped (length σ.seen)

  abbrev walk : Tree → ℕ → Walk → Walk
  walk = visit o w f p

  abbrev turn : ℕ → List ℕ → DistHit → Turn
  turn = turn_of nw nf o w f p

  -- ---- one pop
  pop
      : (fuel a : ℕ) (rest : List ℕ) (σ : Walk) (l : List ℕ) (h : DistHit) (c : ℕ)
      → turn a rest σ.best ≡ on l h c
      → run (suc fuel) (a ∷ rest) σ ≡ run_of nw nf o w f p fuel l h (σ.popped + 1) (length σ.seen + c)
  unfolding run_of
  pop fuel a rest σ l h c e = rw e

  run_none : (fuel : ℕ) (σ : Walk) → run fuel [] σ ≡ answer σ
  unfolding run_of
  run_none zero σ = refl
  run_none (suc fuel) σ = refl

  stands_near : (at s : ℕ) (t : Tree) → Stands nw nf at s t → node_dist nw nf o w f p at ≡ near o w f p t
  unfolding node_dist
  stands_near at s (leaf b c) h = rw h.0
  stands_near at s (node b l r) h = rw h.0

  -- ---- what a pop comes to at a node at place `at`
  module _ (at : ℕ) (rest : List ℕ) (σ : Walk) where
    turn_skip
        : (x : Float) → node_dist nw nf o w f p at ≡ x → le σ.best.d x ≡ true
        → turn at rest σ.best ≡ on rest σ.best 0
    unfolding turn_of
    turn_skip x n e = simp (n, e)

    turn_leaf
        : (b : Aabb) (s c : ℕ) → node_at nw nf at ≡ leaf_node b s c → at < 511 → 0 < c → s + c ≤ 256
        → le σ.best.d (box_dist p b) ≡ false → turn at rest σ.best ≡ on rest
        (leaf_hit w f o p s c σ.best) c
    unfolding turn_of node_dist places_of
    turn_leaf b s c v below some fits e =
        let ne : c ≡ 0 → ⊥ = λ z. omega arith in
        let all : min c (256 - s) ≡ c = omega arith in
        simp (v, e, lt-ltb at 511 below, ne_eqb c 0 ne, all)

    turn_node
        : (b : Aabb) (k : ℕ) → node_at nw nf at ≡ inner_node b k → at < 511 → length rest ≤ 62
        → le σ.best.d (box_dist p b) ≡ false
        → turn at rest σ.best ≡ on (pushed nw nf o w f p (at + 1) k rest) σ.best 0
    unfolding turn_of node_dist
    turn_node b k v below room e = simp (v, e, lt-ltb at 511 below, le-ltb 62 (length rest) room)

  -- ---- a whole tree
  -- after the tree t is seen, the run goes on with what waited, and at most one pop for each node is gone
  record Seen (t : Tree) (fuel : ℕ) (stack rest : List ℕ) (σ σ' : Walk) : Type 0 where
    left : ℕ
    enough : fuel ≤ left + size t
    goes : run fuel stack σ ≡ run left rest σ'

  -- the tree t stands at place `at`, and there is room for it
  record Fits (t : Tree) (at s fuel : ℕ) (rest : List ℕ) : Type 0 where
    stands : Stands nw nf at s t
    places : s + weight t ≤ 256
    pops : size t ≤ fuel
    room : length rest + depth t ≤ 63

  -- passed over
  Seen-skip
      : (t : Tree) (at s fuel : ℕ) (rest : List ℕ) (σ : Walk) → 0 < size t → Stands nw nf at s t
      → le σ.best.d (near o w f p t) ≡ true → Seen t (suc fuel) (at ∷ rest) rest σ (skip o w f p t s σ)
  Seen-skip t at s fuel rest σ some h e = record {
    left = fuel;
    enough = omega arith;
    goes =
        pop fuel at rest σ rest σ.best 0 (turn_skip at rest σ (near o w f p t) (stands_near at s t h) e)
        ∙ rw add-zero;
  }

  module _ (lw : length nw ≡ 4599) where
    seen_leaf
        : (b : Aabb) (c at s fuel : ℕ) (rest : List ℕ) (σ : Walk) → Fits (leaf b c) at s (suc fuel) rest
        → (x : Bool)
        → le σ.best.d (box_dist p b) ≡ x → Seen (leaf b c) (suc fuel) (at ∷ rest) rest σ
        (walk (leaf b c) s σ)
    unfolding visit
    seen_leaf b c at s fuel rest σ h true e = rw e (Seen-skip (leaf b c) at s fuel rest σ (omega arith) h.stands e)
    seen_leaf b c at s fuel rest σ h false e = rw e (record {
      left = fuel;
      enough = omega arith;
      goes =
          pop fuel at rest σ rest (leaf_hit w f o p s c σ.best) c
          (turn_leaf at rest σ b s c h.stands.0 (stands_below nw nf lw at s (leaf b c) h.stands)
          h.stands.1 h.places e) ∙
          rw (length_seen σ.seen s c);
    })

    module _ (b : Aabb) (l r : Tree) (at s fuel : ℕ) (rest : List ℕ) (σ : Walk)
        (h : Fits (node b l r) at s (suc fuel) rest) where
      -- a child seen with the other one waiting, or after it
      abbrev Sees : Tree → ℕ → ℕ → Type 0
      Sees t at s =
          (k : ℕ) (rest' : List ℕ) (σ : Walk) → size t ≤ k → length rest' ≤ length rest + 1
          → Seen t k (at ∷ rest')
          rest' σ (walk t s σ)

      seen_both
          : (x y : Tree) (ax sx ay sy : ℕ) → Sees x ax sx → Sees y ay sy → size x + size y ≡ size l + size r
          → run (suc fuel) (at ∷ rest) σ ≡ run fuel (ax ∷ ay ∷ rest) (more o w f p σ)
          → Seen (node b l r) (suc fuel) (at ∷ rest) rest σ (walk y sy (walk x sx (more o w f p σ)))
      seen_both x y ax sx ay sy see-x see-y all e =
          let first = see-x fuel (ay ∷ rest) (more o w f p σ) (omega (arith, h.pops)) (omega arith) in
          let second = see-y first.left rest (walk x sx (more o w f p σ)) (omega (arith, first.enough, h.pops))
          (omega arith) in
          record {
            left = second.left;
            enough = omega (arith, first.enough, second.enough);
            goes = e
                ∙ first.goes ∙ second.goes;
          }

      -- the two children on the stack, the nearer on top
      abbrev two : Bool → List ℕ
      two x = cond x ((at + 1) ∷ (at + 1 + size l) ∷ rest) ((at + 1 + size l) ∷ (at + 1) ∷ rest)

      pushed_two
          : (x : Bool) → lt (near o w f p l) (near o w f p r) ≡ x
          → pushed nw nf o w f p (at + 1) (at + 1 + size l) rest ≡ two x
      unfolding pushed
      pushed_two x e =
          rw (stands_near (at + 1) s l h.stands.1, stands_near (at + 1 + size l) (s + weight l) r h.stands.2, e)

      opened
          : le σ.best.d (box_dist p b) ≡ false → (x : Bool) → lt (near o w f p l) (near o w f p r) ≡ x
          → run (suc fuel) (at ∷ rest) σ ≡ run fuel (two x) (more o w f p σ)
      opened e x u =
          pop fuel at rest σ (two x) σ.best 0
          (turn_node at rest σ b (at + 1 + size l) h.stands.0
          (stands_below nw nf lw at s (node b l r) h.stands) (omega (arith, h.room)) e ∙ rw (pushed_two x u)) ∙
          rw add-zero

      module _ (see-l : Sees l (at + 1) s) (see-r : Sees r (at + 1 + size l) (s + weight l)) where
        seen_two
            : le σ.best.d (box_dist p b) ≡ false → (x : Bool) → lt (near o w f p l) (near o w f p r) ≡ x
            → Seen (node b l r) (suc fuel) (at ∷ rest) rest σ (walk (node b l r) s σ)
        unfolding visit
        seen_two e true u =
            rw (e, u) (seen_both l r (at + 1) s (at + 1 + size l) (s + weight l) see-l see-r refl (opened e true u))
        seen_two e false u =
            rw (e, u)
            (seen_both r l (at + 1 + size l) (s + weight l) (at + 1) s see-r see-l (omega arith) (opened e false u))

        seen_node
            : (x : Bool) → le σ.best.d (box_dist p b) ≡ x
            → Seen (node b l r) (suc fuel) (at ∷ rest) rest σ (walk (node b l r) s σ)
        unfolding visit
        seen_node true e = rw e (Seen-skip (node b l r) at s fuel rest σ (omega arith) h.stands e)
        seen_node false e = seen_two e (lt (near o w f p l) (near o w f p r)) refl

    seen
        : (t : Tree) (at s fuel : ℕ) (rest : List ℕ) (σ : Walk) → Fits t at s fuel rest
        → Seen t fuel (at ∷ rest) rest σ (walk t s σ)
    seen (leaf b c) at s zero rest σ h = absurd (omega (arith, h.pops))
    seen (leaf b c) at s (suc fuel) rest σ h = seen_leaf b c at s fuel rest σ h (le σ.best.d (box_dist p b)) refl
    seen (node b l r) at s zero rest σ h = absurd (omega (arith, h.pops))
    seen (node b l r) at s (suc fuel) rest σ h =
        seen_node b l r at s fuel rest σ h
        (λ k rest' σ g d. seen l (at + 1) s k rest' σ
        (record { stands = h.stands.1; places = omega (arith, h.places); pops = g; room = omega (arith, h.room) }))
        (λ k rest' σ g d. seen r (at + 1 + size l) (s + weight l) k rest' σ
        (record { stands = h.stands.2; places = omega (arith, h.places); pops = g; room = omega (arith, h.room) }))
        (le σ.best.d (box_dist p b)) refl

    module _ (bs : List Aabb) (t : Tree) (h : Accepted nw nf o bs t) (few : length bs ≤ 256) where
      root_fits : Fits t 0 0 511 []
      root_fits = record {
        stands = h.holds.stands;
        places = omega (arith, h.holds.all);
        pops = omega (arith, stands_fit nw nf lw 0 0 t h.holds.stands);
        room = omega (arith, h.low);
      }

      -- the search's answer on an accepted tree: that of the walk, and whole
      pub search_walks
          : length bs ≡ count_of objects w → (bound : DistHit)
          → search_of nw nf o w f p bound ≡ answer (visit o w f p t 0 (walk_from bound))
      unfolding search_of
      search_walks all bound =
          let ne : count_of objects w ≡ 0 → ⊥ = λ z. omega
          (arith, weight_above nw nf 0 0 t h.holds.stands, h.holds.all) in
          let q = seen t 0 0 511 [] (walk_from bound) root_fits in
          rw (ne_eqb (count_of objects w) 0 ne) (q.goes ∙ run_none q.left (visit o w f p t 0 (walk_from bound)))
