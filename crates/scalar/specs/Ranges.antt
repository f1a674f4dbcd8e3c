-- Ranges of given numbers: a NaN is in none, and an infinity in none with finite ends. Minus zero counts as zero.
use Rattle.std.specs.Prelude.{Bool, ◌&&◌, Float}
use Rattle.std.specs.Float.Ieee.{neg, le}

unfoldable pub between : Float → Float → Float → Bool
between lo x hi = le lo x && le x hi

unfoldable pub magnitude : Float → Float → Bool  -- at most `most` in magnitude
unfolding between
magnitude x most = between (neg most) x most
