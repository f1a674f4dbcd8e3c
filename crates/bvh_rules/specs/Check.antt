-- The checker's answer and its numbers. That it accepts exactly what the rules allow is shown in proofs/Exact.
use Rattle.std.specs.Prelude.{ℕ, Bool, cond, Option, Some, None, is_some, List, length, eqb, Float}
use Rattle.sdf.specs.declared.Aabb.{Aabb}
use Rattle.refusals.specs.Refusals.{bad_tree, too_deep, no_tree}
use Rattle.bvh_rules.specs.declared.Sub.{Sub}
use Rattle.bvh_rules.specs.Nodes.{node_at}
use Rattle.bvh_rules.specs.Inside.Steps.{check_of, order_ok, whole_of}

unfoldable pub judge_of : ℕ → List ℕ → List Float → List ℕ → List Aabb → Option Sub  -- with no objects nothing is judged
judge_of levels w f o bs =
    cond (eqb (length bs) 0) (Some (record { next = 0; ends = 0 }))
    (cond (order_ok o (length bs)) (whole_of (check_of levels w f o bs (node_at w f 0).hull 0 0) (length bs)) None)

abbrev pub is_good : Option Sub → Bool
is_good s = is_some s

-- "6: an offered tree breaks a tree rule other than depth; 7: meets all but depth", of one not good with 64 levels
abbrev pub refused_number : List ℕ → List Float → List ℕ → List Aabb → ℕ
refused_number w f o bs = cond (is_good (judge_of 256 w f o bs)) too_deep bad_tree  -- 256 objects have no more levels

unfoldable pub offered_number : List ℕ → List Float → List ℕ → List Aabb → ℕ
offered_number w f o bs = cond (is_good (judge_of 64 w f o bs)) 0 (refused_number w f o bs)

-- "node or order tables that break a tree rule count as no tree (8)"
unfoldable pub standing_number : List ℕ → List Float → List ℕ → List Aabb → ℕ
standing_number w f o bs = cond (is_good (judge_of 64 w f o bs)) 0 no_tree
