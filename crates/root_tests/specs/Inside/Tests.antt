-- What is asked of roots, and what stands in for them: a bound's limit, held against a square. Definitions only; the
-- laws are in proofs/Squares.antt.
use Rattle.std.specs.Prelude.{Bool, false, cond, pos, Float}
use Rattle.std.specs.Float.{nan, fin, binary32}
use Rattle.std.specs.Float.Ieee.{of_bits, lt, le}
use Rattle.root.specs.Root.{root_of}
use Rattle.root.specs.Inside.Bar.{bar_of}
use Rattle.scalar.specs.F32.{f0}

abbrev pub most : Float  -- f32::MAX
most = of_bits binary32 0x7f7f_ffff

unfoldable pub usual : Float → Bool  -- above zero and finite
usual x = cond (lt f0 x) (le x most) false

unfoldable pub far_off : Float → Float → Bool  -- the root of s is at least d
far_off s d = le d (root_of s)

unfoldable pub left_first : Float → Float → Bool  -- the root of l is less than that of r
left_first l r = lt (root_of l) (root_of r)

-- what a square is held against, so that its root is at least d where the square is at least this
unfoldable pub limit_of : Float → Float
limit_of d = cond (lt f0 d) (bar_of d) (cond (le d f0) (fin false 0 (pos 0)) nan)
