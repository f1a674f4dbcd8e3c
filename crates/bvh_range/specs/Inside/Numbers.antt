-- Corners that are numbers, and the lesser and the greater of a number and any float by one test.
use Rattle.std.specs.Prelude.{cond, T, Float}
use Rattle.std.specs.Float.Ieee.{le}
use Rattle.vectors.specs.declared.Vec3.{Vec3}
use Rattle.sdf.specs.declared.Aabb.{Aabb}
use Rattle.float_order.specs.Inside.Order.{number}

abbrev pub lesser_of : Float → Float → Float
lesser_of a b = cond (le b a) b a

abbrev pub greater_of : Float → Float → Float
greater_of a b = cond (le a b) b a

pub record Three (v : Vec3) : Type 0 where
  pub at_x : T (number v.x)
  pub at_y : T (number v.y)
  pub at_z : T (number v.z)

pub record Numbers (b : Aabb) : Type 0 where
  pub low : Three b.lo
  pub high : Three b.hi
