-- A run of stores: a loop that makes it, and what is read of it, in the run and outside. By induction on the run.
-- Assumes nothing.
use Rattle.std.proofs.Common.{drop-drop, append_assoc, sym}
use Prim.Native.Nat.{ℕ, zero, suc, ◌+◌, ◌-◌, ◌<◌, ◌≤◌}
use mathlib.Core.Path.{◌≡◌, refl, ◌∙◌}
use mathlib.Core.Logic.{◌⊎◌, ⊎_elim, inl, inr}
use mathlib.Core.List.{List, [], ◌∷◌, ◌++◌}
use native.Mathlib.Nat.{add-zero}
use native.Mathlib.Numerals.{add-one}
use native.Mathlib.Omega.{arith}
use lib.ListN.{length, get_or, set, take, drop, length-set, drop_of_length-le}
use lib.Seq.{sets, sets-eq, drop-cons, get_or-set_same, get_or-set_other}

-- a loop that writes r from i on: a turn, and the end
pub sets_step
    : (w r : List ℕ) (i j : ℕ)
    → j < length r
    → sets w (i + j) (drop j r) ≡ sets (set w (i + j) (get_or r j 0)) (i + (j + 1)) (drop (j + 1) r)
sets_step w r i j h =
    let g : i + (j + 1) ≡ suc (i + j) = omega arith in
    rw (drop-cons r j 0 h, g, add-one)

pub sets_none : (w r : List ℕ) (i j : ℕ) → length r ≤ j → sets w i (drop j r) ≡ w
sets_none w r i j h = rw (drop_of_length-le r h)

pub get_d_sets_out
    : (l : List ℕ) (i : ℕ) (vs : List ℕ) (k : ℕ)
    → (k < i) ⊎ (i + length vs ≤ k)
    → get_or (sets l i vs) k 0 ≡ get_or l k 0
get_d_sets_out l i [] k h = refl
get_d_sets_out l i (a ∷ vs) k h =
    get_d_sets_out (set l i a) (suc i) vs k (⊎_elim (λ p. inl (omega arith)) (λ p. inr (omega arith)) h)
    ∙ get_or-set_other l i k a 0 (λ e. ⊎_elim (λ p. omega arith) (λ p. omega arith) h)

pub get_d_sets_in
    : (l : List ℕ) (i : ℕ) (vs : List ℕ) (k : ℕ)
    → k < length vs
    → i + length vs ≤ length l
    → get_or (sets l i vs) (i + k) 0 ≡ get_or vs k 0
get_d_sets_in l i [] k h f = absurd (omega arith)
get_d_sets_in l i (a ∷ vs) zero h f =
    rw add-zero (get_d_sets_out (set l i a) (suc i) vs i (inl (omega arith)) ∙ get_or-set_same l i a 0 (omega arith))
get_d_sets_in l i (a ∷ vs) (suc k) h f =
    let e : i + suc k ≡ suc i + k = omega arith in
    rw e (get_d_sets_in (set l i a) (suc i) vs k (omega arith) (rw length-set (omega arith)))

-- a run put in the place of what stands from p to e
pub part_put
    : (b vs : List ℕ) (p e : ℕ)
    → e ≡ p + length vs
    → e ≤ length b
    → take p b ++ (vs ++ drop (e - p) (drop p b)) ≡ sets b p vs
part_put b vs p e h f =
    let q : p + (e - p) ≡ p + length vs = omega arith in
    rw (drop-drop (e - p) p b, q) (sym (append_assoc (take p b) vs (drop (p + length vs) b)) ∙ sym (sets-eq vs b p (omega arith)))
