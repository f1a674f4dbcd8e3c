-- "Where several apply the lowest is sent": of a list of numbers, where 0 is no number. Definitions only; the theorems
-- are those of proofs/Lowest.antt.
use Rattle.std.specs.Prelude.{ℕ, ◌≤◌, ◌<◌, ◌≡◌, ◌↔◌, List, [], ◌∷◌}
use Rattle.words.specs.Lists.{All}
use Rattle.refusals.specs.Refusals.{lower}
use Rattle.bvh_search.specs.Demand.{In}

unfoldable pub lowest_in : List ℕ → ℕ
lowest_in [] = 0
lowest_in (n ∷ ns) = lower n (lowest_in ns)

abbrev pub NoLower : List ℕ → ℕ → Type 0  -- no number of the list that applies is below n
NoLower ns n = All (λ (m : ℕ). 0 < m → n ≤ m) ns

-- none applies and n is 0; or n is one that applies, and none that applies is lower
pub record LowestIn (ns : List ℕ) (n : ℕ) : Type 0 where
  pub none : (n ≡ 0) ↔ All (λ (m : ℕ). m ≡ 0) ns
  pub one : 0 < n → In n ns
  pub least : NoLower ns n
