-- A call by the tree that is not refused searches an accepted tree only: its tests are exact. Assumes nothing.
use Prim.Native.Nat.{ℕ, ◌≤◌}
use native.Mathlib.Omega.{arith}
use mathlib.Core.Path.{◌≡◌, refl, sym, ◌∙◌, subst}
use mathlib.Core.Logic.{inl, inr, ⊎_elim}
use mathlib.Core.Bool.{Bool, true, false, cond, and-eq-true_iff}
use mathlib.Core.List.{List, [], ◌∷◌}
use lib.ListN.{length}
use lib.Dec.{T}
use lib.Seq.{take_all}
use lib.Ieee.{Float, of_bits, neg, lt, le, eq}
use denote.Floats.{passes}
use Rattle.scalar.specs.Ranges.{between, magnitude}
use Rattle.vectors.specs.declared.Vec3.{Vec3}
use Rattle.refusals.specs.Refusals.{unless, lower}
use Rattle.refusals.specs.Ranges.{greatest, farthest, within}
use Rattle.plan.specs.declared.DistHit.{DistHit}
use Rattle.plan.specs.Sections.{table_words, objects}
use Rattle.plan.specs.Plan.{Piece, count_of, plan_of, seen, plan_in}
use Rattle.plan.specs.Nearest.{hit_of, closer, nearest, nothing}
use Rattle.plan_test.specs.Tests.{lit_number}
use Rattle.plan_test.proofs.Exact.{objects_exact, solids_exact, lit_exact}
use Rattle.float_order.proofs.Order.{le_right, lt_left, number_eq}
use Rattle.bvh_boxes.specs.Boxes.{boxes_of}
use Rattle.bvh_boxes.proofs.Lists.{boxes_length, box_count}
use Rattle.bvh_rules.specs.Nodes.{nodes_of, order_of}
use Rattle.bvh_rules.specs.Rules.{Tree, weight, Once, Accepted, MeetsRules}
use Rattle.bvh_rules.proofs.Lists.{nodes_length}
use Rattle.bvh_rules.proofs.Exact.{standing_exact}
use Rattle.bvh_search.specs.declared.Searched.{Searched}
use Rattle.bvh_search.specs.Field.{hit_by, field_by}
use Rattle.bvh_search.specs.Demand.{Demand}
use Rattle.bvh_search.proofs.Demand.{demand_met, search_empty}
use Rattle.panel.specs.Panels.{panels_number}
use Rattle.ask_test.specs.Numbers.{arg_vec, arg_float, tree_number, query_number, solids_ask}
use Rattle.bemitondry_ask.specs.Asks.{query_bound}
use Rattle.bemitondry_light.specs.Light.{panels, lit_ask}
use Rattle.promises.specs.Demand3.{Searches, Answers, FieldAnswers}
use Rattle.promises.proofs.Exact.{as_is, lower_exact, unless_exact, and_exact}
use Rattle.promises.proofs.Demand3.Places.{order_onto, evaluates_once}

finite_number : (x : Float) → magnitude x greatest ≡ true → T (eq x x)
unfolding magnitude between
finite_number x e =
    let low : Bool = le (neg greatest) x in
    let p = (and-eq-true_iff low (le x greatest)).0 e in
    subst T (sym (number_eq x)) (le_right (neg greatest) x (passes low p.0))

-- ---- a search from a bound that is a number, where the standing tree gets 0
module _ (w : List ℕ) (long : length w ≡ table_words) where
  searches
      : (p : Vec3) (bound : DistHit) (a : Searched) (t : Tree)
      → Accepted (nodes_of w) (nodes_of (seen w)) (order_of w) (boxes_of (plan_in w)) t
      → Demand (order_of w) w (seen w) p t bound a
      → Searches w p bound a
  searches p bound a t h d =
      let all : weight t ≡ count_of objects w = h.holds.all ∙ box_count w (seen w) in
      let c : Once (order_of w) (weight t) = rw h.holds.all h.holds.once in
      record {
        tree = t;
        accepted = h;
        demand = d;
        each = λ k l.
            let at = order_onto (order_of w) (weight t) c k (omega arith) in
            (at.0, omega (arith, at.1.0), at.1.1, d.over at.0 at.1.0);
        once = rw d.walked (evaluates_once (order_of w) w (seen w) p t bound c);
      }

  stood
      : length (plan_in w).objects ≤ 256
      → tree_number 1 w (seen w) ≡ 0
      → (p : Vec3) (bound : DistHit)
      → T (eq bound.d bound.d)
      → Answers w p bound (hit_by 1 w (seen w) p bound)
  unfolding hit_by tree_number MeetsRules
  stood many e p bound n =
      let f = seen w in
      let bs = boxes_of (plan_in w) in
      let few : length bs ≤ 256 = omega (arith, boxes_length (plan_in w)) in
      let nodes = nodes_length w long in
      ⊎_elim
      (λ none.
      let z : count_of objects w ≡ 0 = sym (box_count w f) ∙ none in
      inl (z, search_empty (nodes_of w) (nodes_of f) (order_of w) w f p bound z))
      (λ t.
      inr (searches p bound (hit_by 1 w f p bound) t.0 t.1
      (demand_met (nodes_of w) (nodes_of f) (order_of w) w f bs t.0 nodes few (box_count w f) t.1 p bound n)))
      ((standing_exact (nodes_of w) (nodes_of f) (order_of w) bs nodes few).0 e)

-- ---- the planes' nearest is a number to start from
closer_number : (best hit : DistHit) → T (eq best.d best.d) → T (eq (closer best hit).d (closer best hit).d)
unfolding closer
closer_number best hit n = go (lt hit.d best.d) refl
  where
    go : (b : Bool) → lt hit.d best.d ≡ b → T (eq (cond b hit best).d (cond b hit best).d)
    go true e = subst T (sym (number_eq hit.d)) (lt_left hit.d best.d (passes (lt hit.d best.d) e))
    go false e = n

nearest_number
    : (os : List Piece) (p : Vec3) (best : DistHit)
    → T (eq best.d best.d)
    → T (eq (nearest os p best).d (nearest os p best).d)
unfolding nearest
nearest_number [] p best n = n
nearest_number (x ∷ os) p best n = nearest_number os p (closer best (hit_of x p)) (closer_number best (hit_of x p) n)

nothing_number : T (eq nothing.d nothing.d)
unfolding eq of_bits
nothing_number = tt

-- ---- the calls
-- where a call's number is 0: a query of the point and the bound in its arguments
module _ (before : ℕ) (w : List ℕ) (long : length w ≡ table_words) where
  abbrev f : List Float
  f = seen w

  pub query_stands
      : lower (query_number before w (seen w)) (tree_number 1 w (seen w)) ≡ 0
      → Answers w (arg_vec (seen w) 0) (query_bound w (seen w))
      (hit_by 1 w (seen w) (arg_vec (seen w) 0) (query_bound w (seen w)))
  unfolding query_number
  query_stands answered =
      let near : Bool = within (arg_vec f 0) farthest in
      let finite : Bool = magnitude (arg_float f 3) greatest in
      let tests = lower_exact {a = before} as_is
      (lower_exact (unless_exact 0 (and_exact {a = near} {b = finite} as_is as_is)) (objects_exact (plan_in w))) in
      let x = (lower_exact {b = tree_number 1 w f} tests as_is).0 answered in
      stood w long x.0.1.1.counts.objects x.1 (arg_vec f 0) (query_bound w f)
      (finite_number (arg_float f 3) x.0.1.0.1)

  -- at every point whatever, the field of a call whose number is 0 is such a search from the planes' nearest
  field_stands : length (plan_in w).objects ≤ 256 → tree_number 1 w (seen w) ≡ 0 → FieldAnswers w
  unfolding field_by
  field_stands few e p =
      let from = nearest (plan_in w).planes p nothing in
      let n = nearest_number (plan_in w).planes p nothing nothing_number in
      (hit_by 1 w f p from, refl, stood w long few e p from n)

  -- `dist_mat`, `trace` and `soft_shadow`
  pub solids_stand
      : (given : Bool) → lower (solids_ask before given w (seen w)) (tree_number 1 w (seen w)) ≡ 0 → FieldAnswers w
  unfolding solids_ask
  solids_stand given answered =
      let tests = lower_exact {a = before} as_is (lower_exact {a = unless 1 given} as_is (solids_exact (plan_in w))) in
      let x = (lower_exact {b = tree_number 1 w f} tests as_is).0 answered in
      field_stands x.0.1.1.counts.objects x.1

  -- `direct` and `direct_diffuse`, asked at q
  pub lit_stand : (given : ℕ) (q : Vec3) → lit_ask before given 1 q w (seen w) ≡ 0 → FieldAnswers w
  unfolding lit_ask
  lit_stand given q answered =
      let tests = lower_exact {a = before} as_is (lower_exact {a = given} as_is (lit_exact (plan_in w))) in
      let x = (lower_exact {b = panels_number q (panels w f)} (lower_exact {b = tree_number 1 w f} tests as_is) as_is
      ).0 answered in
      field_stands x.0.0.1.1.solids.counts.objects x.0.1

-- the lights that such a call goes through are all of the plan's
pub panels_all : (w : List ℕ) (f : List Float) → lit_number (plan_of w f) ≡ 0 → panels w f ≡ (plan_of w f).lights
panels_all w f e = take_all 16 (plan_of w f).lights ((lit_exact (plan_of w f)).0 e).solids.counts.lights
