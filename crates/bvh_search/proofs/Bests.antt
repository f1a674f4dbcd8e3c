-- The best of a walk is the least, by value, of the bound and of those distances seen that are numbers, and no box
-- passed over is nearer. Each step keeps that, since a best that is a number only goes down. Assumes nothing.
use Rattle.std.proofs.Common.{◌≡◌, ℕ, zero, suc, Bool, true, false, cond, T, ◌⊎◌, List, [], ◌∷◌, ◌++◌, refl, ◌∙◌, inl, inr, append_assoc, append-nil}
use lib.Ieee.{Float, lt, le, eq}
use Rattle.vectors.specs.declared.Vec3.{Vec3}
use Rattle.words.specs.Lists.{list_from}
use Rattle.float_order.specs.Inside.Order.{less_of}
use Rattle.float_order.proofs.Order.{number_eq, le_left, le_refl, le_trans}
use Rattle.float_order.proofs.Extremes.{less_of_left, less_of_right, less_of_one}
use Rattle.plan.specs.declared.DistHit.{DistHit}
use Rattle.plan.specs.Plan.{Piece}
use Rattle.plan.specs.Nearest.{piece_dist, hit_of, nearest}
use Rattle.plan.specs.Nearest as plan
use Rattle.bvh_rules.specs.Rules.{Tree, place}
use Rattle.bvh_search.specs.Search.{piece_in, leaf_hit}
use Rattle.bvh_search.specs.Walk.{Passed, Walk, walk_from, near, visit}
use Rattle.bvh_search.specs.Demand.{In, dist, Least}
use Rattle.bvh_search.proofs.Covers.{in_left, in_right, in_split}
use Rattle.bvh_search.proofs.Steps.{keeps}

closer_d
    : (x : Piece) (p : Vec3) (best : DistHit) → (plan.closer best (hit_of x p)).d ≡ less_of best.d (piece_dist x p)
unfolding plan.closer hit_of
closer_d x p best = go (lt (piece_dist x p) best.d)
  where
    go
        : (y : Bool)
        → (cond y (record { d = piece_dist x p; mat = x.head.material }) best).d ≡ cond y (piece_dist x p) best.d
    go true = refl
    go false = refl

module _ (o : List ℕ) (w : List ℕ) (f : List Float) (p : Vec3) (bound : Float) where
  pub record Good (d : Float) (seen : List ℕ) (passed : List Passed) : Type 0 where
    pub least : Least o w f p d bound seen
    pub far : (q : Passed) → In q passed → T (le d (near o w f p q.under))

  -- one more place
  module _ (i : ℕ) (d : Float) (seen : List ℕ) where
    abbrev c : Float
    c = less_of d (dist o w f p i)

    one_more_lem
        : (c ≡ d) ⊎ (c ≡ dist o w f p i) → (d ≡ bound) ⊎ ((j : ℕ) × In j seen × (d ≡ dist o w f p j))
        → (c ≡ bound) ⊎ ((j : ℕ) × In j (seen ++ (i ∷ [])) × (c ≡ dist o w f p j))
    one_more_lem (inl e) (inl h) = inl (e ∙ h)
    one_more_lem (inl e) (inr h) = inr (h.0, in_left h.0 seen (i ∷ []) h.1, e ∙ h.2)
    one_more_lem (inr e) h = inr (i, in_right i seen (i ∷ []) (inl refl), e)

    good_one : (passed : List Passed) → Good d seen passed → Good c (seen ++ (i ∷ [])) passed
    good_one passed g =
        let n = le_left d bound g.least.bounded in
        let down = less_of_left d (dist o w f p i) n in
        record {
          least = record {
            one = one_more_lem (less_of_one d (dist o w f p i)) g.least.one;
            bounded = le_trans c d bound down g.least.bounded;
            below = λ j h k.
                elim (in_split j seen (i ∷ []) h) [
                  | inl m ↦ le_trans c d (dist o w f p j) down (g.least.below j m k)
                  | inr (inl e) ↦ rw e (less_of_right d (dist o w f p i) n (rw (e, number_eq (dist o w f p i)) at k))
                  | inr (inr z) ↦ absurd z
                ];
          };
          far = λ q h. le_trans c d (near o w f p q.under) down (g.far q h);
        }

  good_leaf
      : (k s : ℕ) (best : DistHit) (seen : List ℕ) (passed : List Passed) → Good best.d seen passed
      → Good (leaf_hit w f o p s k best).d (seen ++ list_from place s k) passed
  unfolding leaf_hit nearest list_from
  good_leaf zero s best seen passed g = rw append-nil g
  good_leaf (suc k) s best seen passed g =
      rw (← (append_assoc seen (s ∷ []) (list_from place (suc s) k)))
      (good_leaf k (suc s) (plan.closer best (hit_of (piece_in w f o s) p)) (seen ++ (s ∷ [])) passed
      (rw (closer_d (piece_in w f o s) p best) (good_one s best.d seen passed g)))

  abbrev pub Kept : Walk → Type 0
  Kept σ = Good σ.best.d σ.seen σ.passed

  good_visit : (t : Tree) (s : ℕ) (σ : Walk) → Kept σ → Kept (visit o w f p t s σ)
  good_visit =
      keeps o w f p Kept
      (λ t s σ e g. record { least = g.least; far = λ q h. elim h [ inl m ↦ rw m e | inr m ↦ g.far q m ] })
      (λ s k σ g. good_leaf k s σ.best σ.seen σ.passed g)
      (λ σ g. g)

pub good_walk
    : (o : List ℕ) (w : List ℕ) (f : List Float) (p : Vec3) (t : Tree) (bound : DistHit)
    → T (eq bound.d bound.d)
    → Kept o w f p bound.d (visit o w f p t 0 (walk_from bound))
good_walk o w f p t bound n =
    good_visit o w f p bound.d t 0 (walk_from bound) (record {
      least = record { one = inl refl; bounded = le_refl bound.d (rw number_eq at n); below = λ i h. absurd h };
      far = λ q h. absurd h;
    })
