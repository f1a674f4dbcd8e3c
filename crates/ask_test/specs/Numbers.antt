-- What a call that asks of a loaded table gets by its arguments, by the plan, and by the tree. before is a number that
-- applies already, w and f are a call's table as words and as floats.
use Rattle.std.specs.Prelude.{ℕ, ◌+◌, ◌*◌, Bool, ◌&&◌, cond, List, eqb, Float}
use Rattle.scalar.specs.Ranges.{magnitude}
use Rattle.vectors.specs.declared.Vec3.{Vec3}
use Rattle.refusals.specs.Refusals.{bad_number, unless, lower}
use Rattle.refusals.specs.Ranges.{greatest, farthest, farther, steep, longest, up_to, within}
use Rattle.plan.specs.Sections.{args_row}
use Rattle.plan.specs.Records.{float_of, vec_of}
use Rattle.plan.specs.Plan.{plan_of}
use Rattle.plan_test.specs.Tests.{objects_number, solids_of}
use Rattle.bvh_boxes.specs.Boxes.{boxes_of}
use Rattle.bvh_rules.specs.Nodes.{nodes_of, order_of}
use Rattle.bvh_rules.specs.Check.{standing_number}

abbrev pub arg_vec : List Float → ℕ → Vec3
arg_vec f k = vec_of f (16 * args_row + k)

abbrev pub arg_float : List Float → ℕ → Float
arg_float f k = float_of f (16 * args_row + k)

unfoldable pub tree_number : ℕ → List ℕ → List Float → ℕ  -- of the standing tree, where it is used: `tree` is 1
tree_number tree w f =
    cond (eqb tree 1) (standing_number (nodes_of w) (nodes_of f) (order_of w) (boxes_of (plan_of w f))) 0

unfoldable pub query_number : ℕ → List ℕ → List Float → ℕ  -- a query: its bound is any finite number
query_number before w f =
    lower before (lower (unless bad_number (within (arg_vec f 0) farthest && magnitude (arg_float f 3) greatest))
    (objects_number (plan_of w f)))

unfoldable pub solids_ask : ℕ → Bool → List ℕ → List Float → ℕ  -- of planes and objects, by arguments good or not
solids_ask before given w f = lower before (lower (unless bad_number given) (solids_of (plan_of w f)).number)

unfoldable pub ray_ok : Vec3 → Vec3 → Float → Float → Bool
ray_ok ro rd tmin tmax = within ro farther && (within rd steep && (up_to tmin longest && up_to tmax longest))

abbrev pub ray_given : List Float → Bool  -- the ray in the arguments: origin, direction, tmin, tmax
ray_given f = ray_ok (arg_vec f 0) (arg_vec f 3) (arg_float f 6) (arg_float f 7)
