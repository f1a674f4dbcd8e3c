-- The search as a walk of the tree, with what it does written down: the places of the order whose objects it evaluates,
-- and the subtrees that it passes over.
use Rattle.std.specs.Prelude.{ℕ, ◌+◌, cond, List, [], ◌∷◌, ◌++◌, Float}
use Rattle.std.specs.Float.Ieee.{lt, le}
use Rattle.vectors.specs.declared.Vec3.{Vec3}
use Rattle.sdf.specs.Boxes.{box_dist}
use Rattle.words.specs.Lists.{list_from}
use Rattle.plan.specs.declared.DistHit.{DistHit}
use Rattle.bvh_rules.specs.Rules.{Tree, leaf, node, hull, weight, place}
use Rattle.bvh_search.specs.Search.{leaf_hit}

pub record Passed : Type 0 where  -- a subtree and the first place of the order under it
  pub under : Tree
  pub first : ℕ

pub record Walk : Type 0 where
  pub best : DistHit
  pub popped : ℕ
  pub seen : List ℕ
  pub passed : List Passed

abbrev pub walk_from : DistHit → Walk
walk_from bound = record { best = bound; popped = 0; seen = []; passed = [] }

module _ (o : List ℕ) (w : List ℕ) (f : List Float) (p : Vec3) where
  abbrev pub near : Tree → Float
  near t = box_dist p (hull t)

  abbrev pub more : Walk → Walk  -- a node popped
  more σ = record { best = σ.best; popped = σ.popped + 1; seen = σ.seen; passed = σ.passed }

  abbrev pub skip : Tree → ℕ → Walk → Walk
  skip t s σ =
      record {
        best = σ.best;
        popped = σ.popped + 1;
        seen = σ.seen;
        passed = record { under = t; first = s } ∷ σ.passed;
      }

  abbrev pub evaluate : ℕ → ℕ → Walk → Walk
  evaluate s c σ =
      record {
        best = leaf_hit w f o p s c σ.best;
        popped = σ.popped + 1;
        seen = σ.seen ++ list_from place s c;
        passed = σ.passed;
      }

  unfoldable pub visit : Tree → ℕ → Walk → Walk  -- the tree whose first place is s
  visit (leaf b c) s σ = cond (le σ.best.d (box_dist p b)) (skip (leaf b c) s σ) (evaluate s c σ)
  visit (node b l r) s σ =
      cond (le σ.best.d (box_dist p b)) (skip (node b l r) s σ)
      (cond (lt (near l) (near r))
      (visit r (s + weight l) (visit l s (more σ)))
      (visit l s (visit r (s + weight l) (more σ))))
