-- `bvh_split::either_place` meets its contract, by the product. Assumes nothing.
use Prim.Native.Nat.{◌-◌}
use native.Mathlib.Omega.{arith}
use Rattle.bvh_split.proofs.Placed.{times_most, place_law}
use Rattle.bvh_split.proofs.either_place.Goals as goal

pub overflow_mul-result : goal.overflow_mul-result
overflow_mul-result c =
    let a = c.args in
    let h = times_most (a.i - a.j) a.one in
    omega (arith, h, c.well_formed.0.1)

pub overflow_sub-result-then-j-i : goal.overflow_sub-result-then-j-i
overflow_sub-result-then-j-i c = let a = c.args in let h = times_most (a.i - a.j) a.one in omega (arith, h)

pub returns-then-j-i : goal.returns-then-j-i
returns-then-j-i c = place_law _ _ _
