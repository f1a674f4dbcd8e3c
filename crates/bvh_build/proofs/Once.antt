-- An order table that holds n numbers in another order holds each once. By what a permutation keeps. Assumes nothing.
use Rattle.std.proofs.Common.{◌≡◌, ℕ, ◌<◌, List, length, get_or, sym, ap, ◌∙◌, arith}
use Rattle.words.specs.Lists.{list_from}
use Rattle.words.proofs.Runs.{get_d_from, length_from}
use Rattle.bvh_rules.specs.Rules.{Once, place}
use Rattle.bvh_split.proofs.Perms.{Perm, Each, Apart, perm_length, perm_all, perm_apart}
use Rattle.bvh_build.proofs.Stands.{Reads}

abbrev pub numbers : ℕ → List ℕ
numbers n = list_from place 0 n

pub number_at : (n i : ℕ) → i < n → get_or (numbers n) i 0 ≡ i
number_at n i h = omega (arith, get_d_from place 0 n i 0 h)

numbers_below : (n : ℕ) → Each (λ o. o < n) (numbers n)
numbers_below n i l =
    let h : i < n = omega (arith, length_from place 0 n) in
    rw (number_at n i h) h

numbers_apart : (n : ℕ) → Apart (numbers n)
numbers_apart n i j l h e =
    let k : j < n = omega (arith, length_from place 0 n) in
    omega (arith, number_at n i (omega arith), number_at n j k)

pub once_by : (n : ℕ) (os o : List ℕ) → Perm (numbers n) os → Reads o 0 os → Once o n
once_by n os o p r =
    let m : length os ≡ n = perm_length p ∙ length_from place 0 n in
    let at : (i : ℕ) → i < n → get_or o i 0 ≡ get_or os i 0 = λ i l. ap (λ (k : ℕ). get_or o k 0) (omega arith)
    ∙ r i (omega arith) in
    record {
      below = λ i l. rw (at i l) (perm_all (λ o. o < n) p (numbers_below n) i (omega arith));
      apart =
          λ i j l h e. perm_apart p (numbers_apart n) i j l (omega arith) (sym (at i (omega arith)) ∙ e ∙ at j h);
    }
