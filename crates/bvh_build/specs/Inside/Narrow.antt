-- A number as a word.
use Rattle.std.specs.Prelude.{ℕ, cond, nat_lt}

abbrev pub low32 : ℕ → ℕ  -- a number that fits a word, else 0
low32 x = cond (nat_lt x 4294967296) x 0
