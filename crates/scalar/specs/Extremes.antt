-- "`max` of two numbers takes the first if it is greater, else the second; one that is not a number yields to the
-- other. `min` likewise; `clamp` as Rust's."
use Rattle.std.specs.Prelude.{cond, Float}
use Rattle.std.specs.Float.Ieee.{lt, eq}

unfoldable pub fmax : Float → Float → Float  -- only a NaN differs from itself
fmax a b = cond (lt b a) a (cond (eq b b) b a)

unfoldable pub fmin : Float → Float → Float
fmin a b = cond (lt a b) a (cond (eq b b) b a)

abbrev pub at_least : Float → Float → Float
at_least x lo = cond (lt x lo) lo x

abbrev pub at_most : Float → Float → Float
at_most x hi = cond (lt hi x) hi x

unfoldable pub clamp_of : Float → Float → Float → Float
clamp_of x lo hi = at_most (at_least x lo) hi
