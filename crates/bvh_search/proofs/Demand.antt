-- Every search of an accepted tree, from a bound that is a number, meets the demand: it is the walk of the tree, and
-- each step keeps it. Assumes nothing.
use Rattle.std.proofs.Common.{◌≡◌, ℕ, ◌≤◌, true, T, List, length, refl, inl, inr, arith}
use lib.Ieee.{Float, eq}
use Rattle.vectors.specs.declared.Vec3.{Vec3}
use Rattle.sdf.specs.declared.Aabb.{Aabb}
use Rattle.plan.specs.declared.DistHit.{DistHit}
use Rattle.plan.specs.Sections.{objects}
use Rattle.plan.specs.Plan.{count_of}
use Rattle.bvh_rules.specs.Rules.{Tree, size, Accepted}
use Rattle.bvh_rules.proofs.Trees.{stands_fit}
use Rattle.bvh_search.specs.Search.{searched, search_of}
use Rattle.bvh_search.specs.Walk.{walk_from, visit}
use Rattle.bvh_search.specs.Demand.{Demand}
use Rattle.bvh_search.proofs.Visit.{answer, search_walks}
use Rattle.bvh_search.proofs.Steps.{counts}
use Rattle.bvh_search.proofs.Covers.{met}
use Rattle.bvh_search.proofs.Bests.{good_walk}

-- a walk's answer
answered
    : (o w : List ℕ) (f : List Float) (p : Vec3) (t : Tree) (bound : DistHit) → T (eq bound.d bound.d)
    → Demand o w f p t bound (answer (visit o w f p t 0 (walk_from bound)))
answered o w f p t bound n =
    let σ = visit o w f p t 0 (walk_from bound) in
    let g = good_walk o w f p t bound n in
    record {
      walk = σ;
      walked = refl;
      room = refl;
      hit = refl;
      popped = refl;
      evaluated = refl;
      least = g.least;
      over = λ i h. elim (met o w f p i t 0 (walk_from bound) (omega arith) (omega arith)) [
        | inl seen ↦ inl seen
        | inr u ↦ inr (record { box = u.box; was = u.was; from = u.from; to = u.to; farther = g.far u.box u.was })
      ];
    }

-- nodes nw and nf, order o, a plan's words w and f whose objects have the boxes bs, and the tree t that the tables hold
module _ (nw : List ℕ) (nf : List Float) (o w : List ℕ) (f : List Float) (bs : List Aabb) (t : Tree) (long : length nw ≡ 4599) (few : length bs ≤ 256)
    (all : length bs ≡ count_of objects w) (held : Accepted nw nf o bs t) (p : Vec3) (bound : DistHit) where
  pub demand_met : T (eq bound.d bound.d) → Demand o w f p t bound (search_of nw nf o w f p bound)
  demand_met n = rw (search_walks nw nf o w f p long bs t held few all bound) (answered o w f p t bound n)

  -- each node is popped, and each object evaluated, at most once
  pub demand_counts : ((search_of nw nf o w f p bound).popped ≤ size t) × (size t ≤ 511) × ((search_of nw nf o w f p bound).evaluated ≤ count_of objects w)
  demand_counts =
      let k = counts o w f p t 0 (walk_from bound) in
      rw (search_walks nw nf o w f p long bs t held few all bound) (
        omega (arith, k.pops),
        omega (arith, stands_fit nw nf long 0 0 t held.holds.stands),
        omega (arith, k.evals, held.holds.all),
      )

-- with no objects the bound comes back, and nothing is popped
pub search_empty
    : (nw : List ℕ) (nf : List Float) (o w : List ℕ) (f : List Float) (p : Vec3) (bound : DistHit)
    → count_of objects w ≡ 0 → search_of nw nf o w f p bound ≡ searched bound 0 0 true
unfolding search_of
search_empty nw nf o w f p bound e = rw e
