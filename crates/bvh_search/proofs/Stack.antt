-- The stack in a table: its first places, the last on top. By induction on how many wait. Assumes nothing.
use Rattle.std.proofs.Common.{◌≡◌, ℕ, zero, suc, ◌+◌, ◌-◌, ◌<◌, ◌≤◌, List, [], ◌∷◌, length, get_or, set, refl, ap, ap₂, add-one, sub-one, arith, get_or-set_other, get_or-set_same}
use Rattle.bvh_search.specs.declared.Waiting.{Waiting}
use Rattle.bvh_search.specs.Inside.Machine.{nobody}

abbrev pub waiting : List Waiting → ℕ → List ℕ
waiting a zero = []
waiting a (suc k) = (get_or a k nobody).at ∷ waiting a k

pub length_waiting : (a : List Waiting) (k : ℕ) → length (waiting a k) ≡ k
length_waiting a zero = refl
length_waiting a (suc k) = ap suc (length_waiting a k)

pub waiting_pop
    : (a : List Waiting) (sp : ℕ) → 0 < sp → waiting a sp ≡ (get_or a (sp - 1) nobody).at ∷ waiting a (sp - 1)
waiting_pop a zero h = absurd (omega arith)
waiting_pop a (suc k) h = simp sub-one

waiting_set : (a : List Waiting) (i : ℕ) (v : Waiting) (k : ℕ) → k ≤ i → waiting (set a i v) k ≡ waiting a k
waiting_set a i v zero h = refl
waiting_set a i v (suc k) h =
    let ne : k ≡ i → ⊥ = omega arith in
    ap₂ ◌∷◌ (ap (λ (x : Waiting). x.at) (get_or-set_other a i k v nobody ne)) (waiting_set a i v k (omega arith))

pub waiting_push
    : (a : List Waiting) (v : Waiting) (k : ℕ) → k < length a → waiting (set a k v) (k + 1) ≡ v.at ∷ waiting a k
waiting_push a v k h =
    rw add-one
    (ap₂ ◌∷◌ (ap (λ (x : Waiting). x.at) (get_or-set_same a k v nobody h)) (waiting_set a k v k (omega arith)))
