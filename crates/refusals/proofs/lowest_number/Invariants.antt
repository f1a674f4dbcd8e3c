-- What the loop of `refusals::lowest_number` keeps.
use Rattle.std.proofs.Common.{◌≡◌, ℕ, ◌<◌}
use Rattle.refusals.specs.Refusals.{lowest_in}
use Rattle.refusals.proofs.lowest_number.Given as goal

abbrev pub invariant-loop-i : goal.invariant-loop-i
invariant-loop-i g l =
    (own : ℕ → ℕ) → ((i : ℕ) (r : ℕ) → i < l.n → goal.F-post g l.number i r → r ≡ own i) → l.least ≡ lowest_in own l.i
