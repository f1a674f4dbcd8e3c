-- "Root: the correctly rounded one of IEEE 754-2008, nearest, ties to even, stated over squares of whole numbers."
-- Every finite f32 is a whole number of the smallest value above zero, 2 ^ -149 (`units`), so the nearest f32 to a root
-- is said over squares of whole numbers: with u, v and w units in x, r and y, √x is nearer to r than to y, for r below
-- y, where √x < (r + y) / 2, that is where 4 * u * 2 ^ 149 < (v + w) ^ 2.
use Rattle.std.specs.Prelude.{ℕ, zero, suc, ◌+◌, ◌-◌, ◌*◌, ◌/◌, ◌%◌, ◌^◌, ◌<◌, Bool, true, false, cond, T, from_bits, nat_le, Float}
use Rattle.std.specs.Float.{nan, inf, fin, binary32}
use Rattle.std.specs.Float.Ieee.{up, down, fits}

abbrev pub units : Float → ℕ  -- the units in a finite value
units nan = 0
units (inf s) = 0
units (fin s m e) = m * up e * 2 ^ 149 / down e

abbrev pub plain : Float → Bool  -- a finite f32 that is not negative and not -0
plain nan = false
plain (inf s) = false
plain (fin true m e) = false
plain (fin false m e) = fits binary32 (fin false m e)

-- r is the root of x, both finite and not negative: it is nearer to √x than every other f32 is
pub record IsRoot (x r : Float) : Type 0 where
  pub asked : T (plain x)
  pub held : T (plain r)
  pub under : (y : Float) → T (plain y) → units r < units y
      → units x * 2 ^ 151 < (units r + units y) * (units r + units y)
  pub over : (y : Float) → T (plain y) → units y < units r
      → (units r + units y) * (units r + units y) < units x * 2 ^ 151

-- the units in the f32 with the bits p, the sign clear: the exponent's field e, and the digits' field t
abbrev pub fields : ℕ → ℕ → ℕ
fields zero t = t
fields (suc e) t = (8388608 + t) * 2 ^ e

abbrev pub val : ℕ → ℕ
val p = fields (p / 8388608) (p % 8388608)

abbrev pub mid : ℕ → ℕ  -- the units in twice the midpoint of p and the f32 just below it
mid p = val (p - 1) + val p

-- The largest p from b up and below b + 2 ^ k with `mid p` at most twice the root of n units, where b is one: k bits,
-- the highest first.
unfoldable pub seek : ℕ → ℕ → ℕ → ℕ
seek zero b n = b
seek (suc k) b n = seek k (cond (nat_le (mid (b + 2 ^ k) * mid (b + 2 ^ k)) (n * 2 ^ 151)) (b + 2 ^ k) b) n

unfoldable pub root_bits : ℕ → ℕ
unfolding seek
root_bits n = seek 31 0 n

-- a zero's root is that zero; the infinity's the infinity; what is below zero has none, and gives no number
unfoldable pub root_of : Float → Float
unfolding root_bits
root_of nan = nan
root_of (inf true) = nan
root_of (inf false) = inf false
root_of (fin s zero e) = fin s zero e
root_of (fin true (suc m) e) = nan
root_of (fin false (suc m) e) = from_bits binary32 (root_bits (units (fin false (suc m) e)))
