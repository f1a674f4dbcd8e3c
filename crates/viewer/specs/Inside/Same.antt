-- A call that asks replies alike on two tables in which it reads the same: the plan, the tree, the pieces that the
-- order names, and its arguments. Its number is the same; where that is 0 the tree stands, so that both search alike,
-- and elsewhere the answer is not sent. Assumes nothing.
use Prim.Native.Nat.{ℕ, zero, suc, ◌+◌, ◌*◌, ◌<◌}
use native.Mathlib.Omega.{arith}
use mathlib.Core.Path.{◌≡◌, refl, fun_ext}
use mathlib.Core.List.{List}
use lib.Dec.{eqb-suc-zero}
use lib.Ieee.{Float}
use borrow.Author.Tests.{eq-eqb}
use Rattle.refusals.specs.Refusals.{lower}
use Rattle.refusals.proofs.Lowest.{lower_zero}
use Rattle.plan.specs.Plan.{plan_of}
use Rattle.plan.proofs.Rows.{Alike}
use Rattle.bvh_boxes.specs.Boxes.{boxes_of}
use Rattle.bvh_rules.specs.Nodes.{nodes_of, order_of}
use Rattle.bvh_rules.specs.Check.{standing_number}
use Rattle.bvh_search.specs.Field.{field_by}
use Rattle.bvh_search.proofs.Same.{Same, standing_same, hit_same, field_same}
use Rattle.ask_test.specs.Numbers.{arg_vec, tree_number, query_number, solids_ask}
use Rattle.reply.specs.declared.Reply.{Reply}
use Rattle.reply.specs.Reply.{reply_of}
use Rattle.bemitondry_ask.specs.Asks.{query_reply, dist_mat_reply}
use Rattle.bemitondry_ask.specs.Marches.{trace_reply, shadow_reply}
use Rattle.bemitondry_light.specs.Light.{lit_ask, direct_reply, direct_diffuse_reply}
use Rattle.viewer.specs.Calls.{Ask}

-- a call that replies alike where it reads the same
abbrev pub Reads : Ask → Type 0
Reads call =
    (before tree : ℕ) (v w : List ℕ) (f g : List Float) → Same v w f g → Alike 16 v w f g 1393 1393
    → call before tree v f ≡ call before tree w g

-- replies need agree only where the number is 0
reply_when : (n : ℕ) (r r' : Reply) → (n ≡ 0 → r ≡ r') → reply_of n r ≡ reply_of n r'
unfolding reply_of
reply_when zero r r' same = same refl
reply_when (suc n) r r' same = rw (eqb-suc-zero n)

-- the second of two numbers, and the second of three
second : (a b : ℕ) → lower a b ≡ 0 → b ≡ 0
second a b e = ((lower_zero a b).0 e).1

middle : (a b c : ℕ) → lower (lower a b) c ≡ 0 → b ≡ 0
middle a b c e = second a b ((lower_zero (lower a b) c).0 e).0

-- the arguments are the first words of row 1393
module _ (before tree : ℕ) (v w : List ℕ) (f g : List Float) (s : Same v w f g) (a : Alike 16 v w f g 1393 1393) where
  vec : (k : ℕ) → k + 2 < 16 → arg_vec f k ≡ arg_vec g k
  vec k h =
      let at : (j : ℕ) → 16 * 1393 + k + j ≡ 16 * 1393 + (k + j) = λ j. omega arith in
      rw (at 1, at 2) (rw (a.float k (omega arith), a.float (k + 1) (omega arith), a.float (k + 2) (omega arith)))

  tree_same : tree_number tree v f ≡ tree_number tree w g
  unfolding tree_number
  tree_same = rw (standing_same v w f g s)

  stands
      : tree_number tree w g ≡ 0 → tree ≡ 1
      → standing_number (nodes_of w) (nodes_of g) (order_of w) (boxes_of (plan_of w g)) ≡ 0
  unfolding tree_number
  stands z e = rw (eq-eqb tree 1 e) at z

  field : tree_number tree w g ≡ 0 → field_by tree v f ≡ field_by tree w g
  field z = fun_ext (field_same v w f g s tree (stands z))

  pub query_same : query_reply before tree v f ≡ query_reply before tree w g
  unfolding query_reply query_number
  query_same =
      rw (
        tree_same,
        s.plan,
        vec 0 (omega arith),
        a.float 3 (omega arith),
        a.word 4 (omega arith),
      )
      (reply_when _ _ _ (λ e. rw (hit_same v w f g s tree (stands (second _ _ e)))))

  pub dist_mat_same : dist_mat_reply before tree v f ≡ dist_mat_reply before tree w g
  unfolding dist_mat_reply solids_ask
  dist_mat_same =
      rw (tree_same, s.plan, vec 0 (omega arith)) (reply_when _ _ _ (λ e. rw (field (second _ _ e))))

  pub trace_same : trace_reply before tree v f ≡ trace_reply before tree w g
  unfolding trace_reply solids_ask
  trace_same =
      rw (
        tree_same,
        s.plan,
        vec 0 (omega arith),
        vec 3 (omega arith),
        a.float 6 (omega arith),
        a.float 7 (omega arith),
      )
      (reply_when _ _ _ (λ e. rw (field (second _ _ e))))

  pub shadow_same : shadow_reply before tree v f ≡ shadow_reply before tree w g
  unfolding shadow_reply solids_ask
  shadow_same =
      rw (
        tree_same,
        s.plan,
        vec 0 (omega arith),
        vec 3 (omega arith),
        a.float 6 (omega arith),
        a.float 7 (omega arith),
        a.float 8 (omega arith),
      )
      (reply_when _ _ _ (λ e. rw (field (second _ _ e))))

  pub direct_same : direct_reply before tree v f ≡ direct_reply before tree w g
  unfolding direct_reply lit_ask
  direct_same =
      rw (
        tree_same,
        s.plan,
        vec 0 (omega arith),
        vec 3 (omega arith),
        vec 6 (omega arith),
        vec 9 (omega arith),
        a.float 12 (omega arith),
        a.float 13 (omega arith),
      )
      (reply_when _ _ _ (λ e. rw (field (middle _ _ _ e))))

  pub diffuse_same : direct_diffuse_reply before tree v f ≡ direct_diffuse_reply before tree w g
  unfolding direct_diffuse_reply lit_ask
  diffuse_same =
      rw (tree_same, s.plan, vec 0 (omega arith), vec 3 (omega arith), vec 6 (omega arith))
      (reply_when _ _ _ (λ e. rw (field (middle _ _ _ e))))
