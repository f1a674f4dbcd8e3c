-- What the laws of order speak of: numbers, finite values as fractions, bounds, what rounds to what, and the nearer of
-- two.
use Rattle.std.specs.Prelude.{ℕ, zero, suc, ◌+◌, ◌*◌, ◌≤◌, ◌<◌, ◌≡◌, Bool, true, false, not, cond, T, pos, Float}
use Rattle.std.specs.Float.{nan, inf, fin, Format}
use Rattle.std.specs.Float.Ieee.{up, round, lt}
use Rattle.std.specs.Float.Ieee.Exact.{HasValue}
use Rattle.std.specs.Float.Ieee.Positive.{den}
use Rattle.std.specs.Float.Ieee.Scale.{finite}

abbrev pub number : Float → Bool  -- all but NaN
number nan = false
number (inf s) = true
number (fin s m e) = true

abbrev pub zero_f : Float  -- 0, opened
zero_f = fin false 0 (pos 0)

abbrev pub minus_zero : Float → Bool
minus_zero nan = false
minus_zero (inf s) = false
minus_zero (fin s zero e) = s
minus_zero (fin s (suc m) e) = false

abbrev pub clear : Float → Bool  -- a number whose sign is clear
clear nan = false
clear (inf s) = not s
clear (fin s m e) = not s

-- ---- a finite value as the fraction (credit - debit) / den
abbrev pub credit : Float → ℕ
credit nan = 0
credit (inf s) = 0
credit (fin false m e) = m * up e
credit (fin true m e) = 0

abbrev pub debit : Float → ℕ
debit nan = 0
debit (inf s) = 0
debit (fin false m e) = 0
debit (fin true m e) = m * up e

abbrev pub AtMost : Float → Float → Type 0  -- x is at most y, and below y, as fractions
AtMost x y = credit x * den y + debit y * den x ≤ credit y * den x + debit x * den y

abbrev pub Under : Float → Float → Type 0
Under x y = credit x * den y + debit y * den x < credit y * den x + debit x * den y

pub record Zero (x : Float) : Type 0 where
  pub fin : T (finite x)
  pub gain : credit x ≡ 0
  pub loss : debit x ≡ 0

pub record Bounded (b : ℕ) (x : Float) : Type 0 where  -- x is finite, and no larger than b either way
  pub finite : T (finite x)
  pub size : credit x + debit x ≤ b * den x

-- ---- rounding
abbrev pub Exactly : Format → ℕ → Type 0  -- the format holds the number b
Exactly f b = HasValue (round f false b 1) false b 1

abbrev pub Apart : Bool → ℕ → ℕ → ℕ → Type 0  -- p - n is k, or -k
Apart false k p n = p ≡ n + k
Apart true k p n = n ≡ p + k

pub record Rounded (f : Format) (r : Float) (p n c : ℕ) : Type 0 where  -- r is (p - n) / c, rounded
  pub sign : Bool
  pub size : ℕ
  pub apart : Apart sign size p n
  pub is : r ≡ round f sign size c

-- ---- extremes
-- the nearer of a best so far and one more: the best so far, unless d is below it
abbrev pub less_of : Float → Float → Float
less_of best d = cond (lt d best) d best
