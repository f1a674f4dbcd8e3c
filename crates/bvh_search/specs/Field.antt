-- A plan's objects and its field, by the tree or by the list: "`dist_mat` takes planes in order, then objects".
use Rattle.std.specs.Prelude.{ℕ, true, cond, List, ◌==◌, Float}
use Rattle.vectors.specs.declared.Vec3.{Vec3}
use Rattle.plan.specs.declared.DistHit.{DistHit}
use Rattle.plan.specs.Sections.{objects}
use Rattle.plan.specs.Plan.{count_of, plan_of}
use Rattle.plan.specs.Nearest.{nearest, nothing, list_hit}
use Rattle.bvh_rules.specs.Nodes.{nodes_of, order_of}
use Rattle.bvh_search.specs.declared.Searched.{Searched}
use Rattle.bvh_search.specs.Search.{searched, search_of}

-- by the tree where it is 1, else by the list, which evaluates every object
unfoldable pub hit_by : ℕ → List ℕ → List Float → Vec3 → DistHit → Searched
hit_by tree w f p bound =
    cond (tree == 1) (search_of (nodes_of w) (nodes_of f) (order_of w) w f p bound)
    (searched (list_hit (plan_of w f) p bound) 0 (count_of objects w) true)

unfoldable pub field_by : ℕ → List ℕ → List Float → Vec3 → DistHit
field_by tree w f p = (hit_by tree w f p (nearest (plan_of w f).planes p nothing)).hit
