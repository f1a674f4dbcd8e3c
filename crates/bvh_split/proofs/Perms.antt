-- Permutations of a list of numbers: what holds of all members before holds of all after, members that differ still
-- differ, and two halves may be permuted apart. By induction on the permutation. Assumes nothing.
use Prim.Native.Nat.{ℕ, zero, suc, ◌<◌}
use mathlib.Core.Path.{◌≡◌, refl, sym, ap, subst, ◌∙◌}
use mathlib.Core.List.Permᴰ
use mathlib.Core.List.{List, [], ◌∷◌, ◌++◌, Permᴰ}
use native.Mathlib.Omega.{arith}
use lib.ListN.{length, get_or, set, take, drop, take-append-drop}

-- the list ys is the list xs in another order
abbrev pub Perm : List ℕ → List ℕ → Type 0
Perm xs ys = Permᴰ xs ys

-- P holds of all members
abbrev pub Each : (ℕ → Type 0) → List ℕ → Type 0
Each P xs = (i : ℕ) → i < length xs → P (get_or xs i 0)

-- no member stands at two places
abbrev pub Apart : List ℕ → Type 0
Apart xs = (i j : ℕ) → i < j → j < length xs → get_or xs i 0 ≡ get_or xs j 0 → ⊥

pub perm_length : {xs ys : List ℕ} → Perm xs ys → length ys ≡ length xs
perm_length Permᴰ.nil = refl
perm_length (Permᴰ.cons e p) = ap suc (perm_length p)
perm_length (Permᴰ.swap e e') = refl
perm_length (Permᴰ.trans p q) = perm_length q ∙ perm_length p

pub perm_all : (P : ℕ → Type 0) {xs ys : List ℕ} → Perm xs ys → Each P xs → Each P ys
perm_all P Permᴰ.nil h i l = h i l
perm_all P (Permᴰ.cons e p) h zero l = subst P e (h 0 (omega arith))
perm_all P (Permᴰ.cons e p) h (suc i) l = perm_all P p (λ j q. h (suc j) (omega arith)) i (omega arith)
perm_all P (Permᴰ.swap e e') h zero l = subst P e' (h 1 (omega arith))
perm_all P (Permᴰ.swap e e') h (suc zero) l = subst P e (h 0 (omega arith))
perm_all P (Permᴰ.swap e e') h (suc (suc i)) l = h (suc (suc i)) l
perm_all P (Permᴰ.trans p q) h i l = perm_all P q (perm_all P p h) i l

pub perm_apart : {xs ys : List ℕ} → Perm xs ys → Apart xs → Apart ys
perm_apart Permᴰ.nil h i j l m q = h i j l m q
perm_apart (Permᴰ.cons e p) h i zero l m q = absurd (omega arith)
perm_apart (Permᴰ.cons {a} e p) h zero (suc j) l m q =
    perm_all (λ (y : ℕ). a ≡ y → ⊥) p (λ k n. h 0 (suc k) (omega arith) (omega arith)) j (omega arith)
    (e ∙ q)
perm_apart (Permᴰ.cons e p) h (suc i) (suc j) l m q =
    perm_apart p (λ k n o r. h (suc k) (suc n) (omega arith) (omega arith)) i j (omega arith) (omega arith) q
perm_apart (Permᴰ.swap e e') h i zero l m q = absurd (omega arith)
perm_apart (Permᴰ.swap e e') h zero (suc zero) l m q =
    h 0 1 (omega arith) (omega arith) (e ∙ sym q ∙ sym e')
perm_apart (Permᴰ.swap e e') h (suc i) (suc zero) l m q = absurd (omega arith)
perm_apart (Permᴰ.swap e e') h zero (suc (suc j)) l m q = h 1 (suc (suc j)) (omega arith) m (e' ∙ q)
perm_apart (Permᴰ.swap e e') h (suc zero) (suc (suc j)) l m q = h 0 (suc (suc j)) (omega arith) m (e ∙ q)
perm_apart (Permᴰ.swap e e') h (suc (suc i)) (suc (suc j)) l m q = h (suc (suc i)) (suc (suc j)) l m q
perm_apart (Permᴰ.trans p p') h i j l m q = perm_apart p' (perm_apart p h) i j l m q

-- ---- both halves in another order
pub perm_halves
    : (m : ℕ) (os : List ℕ) {xs ys : List ℕ} → Perm (take m os) xs → Perm (drop m os) ys
    → Perm os (xs ++ ys)
perm_halves m os {xs} {ys} p q =
    subst (λ (l : List ℕ). Perm l (xs ++ ys)) (take-append-drop m os)
    (Permᴰ.trans (Permᴰ.append_right (drop m os) p) (Permᴰ.append_left xs q))

-- ---- two members exchanged
put_perm : (xs : List ℕ) (j x : ℕ) → j < length xs → Perm (x ∷ xs) (get_or xs j 0 ∷ set xs j x)
put_perm [] j x h = absurd (omega arith)
put_perm (y ∷ xs) zero x h = Permᴰ.swap refl refl
put_perm (y ∷ xs) (suc j) x h =
    Permᴰ.trans (Permᴰ.swap refl refl)
    (Permᴰ.trans (Permᴰ.cons refl (put_perm xs j x (omega arith))) (Permᴰ.swap refl refl))

pub exchange_perm
    : (xs : List ℕ) (i j : ℕ) → i < length xs → j < length xs
    → Perm xs (set (set xs i (get_or xs j 0)) j (get_or xs i 0))
exchange_perm [] i j h k = absurd (omega arith)
exchange_perm (x ∷ xs) zero zero h k = Permᴰ.refl (x ∷ xs)
exchange_perm (x ∷ xs) zero (suc j) h k = put_perm xs j x (omega arith)
exchange_perm (x ∷ xs) (suc i) zero h k = put_perm xs i x (omega arith)
exchange_perm (x ∷ xs) (suc i) (suc j) h k =
    Permᴰ.cons refl (exchange_perm xs i j (omega arith) (omega arith))
