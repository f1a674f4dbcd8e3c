-- What a square is held against so that no root is taken: the root of x is at least b exactly where x is at least
-- `bar_of b`, the square of the midpoint of b and the f32 just below, which an f64 holds. Definitions only; the law is
-- `bar_law` of proofs/BarLaw.antt.
use Rattle.std.specs.Prelude.{◌-◌, false, cond, pos, negsuc, from_bits, to_bits, Float}
use Rattle.std.specs.Float.{fin, binary32, binary64}
use Rattle.std.specs.Float.Ieee.{add, mul, lt}

abbrev pub below : Float → Float  -- the f32 just below b, and 0 for 0
below b = from_bits binary32 (to_bits binary32 b - 1)

abbrev pub middle : Float → Float  -- the midpoint of b and the f32 just below, and its square, as f64
middle b = mul binary64 (add binary64 (below b) b) (fin false 1 (negsuc 0))

abbrev pub bar : Float → Float
bar b = mul binary64 (middle b) (middle b)

unfoldable pub bar_of : Float → Float  -- for every b: 0 where b is not above zero
bar_of b = cond (lt (fin false 0 (pos 0)) b) (bar b) (fin false 0 (pos 0))

-- 1 and 2 ^ -20: two roots differ where the greater square is at least the lesser one times this (`apart_law` of
-- proofs/Apart.antt)
abbrev pub apart_by : Float
apart_by = from_bits binary64 0x3ff0_0001_0000_0000
