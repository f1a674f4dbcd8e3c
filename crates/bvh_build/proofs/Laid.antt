-- A list laid over another: in two parts, its length, what is read of it, and two layings that do not meet commute. By
-- induction on what is laid. Assumes nothing.
use Rattle.std.proofs.Common.{◌≡◌, ℕ, zero, suc, ◌+◌, ◌<◌, ◌≤◌, List, [], ◌∷◌, ◌++◌, length, get_or, drop, set, sym, refl, ap, ◌∙◌, add-zero, arith, length-set, get_or-set_other, get_or-set_same}
use lib.Seq.{set_out, set_comm, sets, sets-eq}
use Rattle.bvh_build.specs.Encode.{laid}

module _ {A : Type 0} where
  pub laid_append
      : (xs : List A) (i : ℕ) (ys zs : List A) → laid xs i (ys ++ zs) ≡ laid (laid xs i ys) (i + length ys) zs
  unfolding laid
  laid_append xs i [] zs = rw add-zero
  laid_append xs i (y ∷ ys) zs =
      let e : suc i + length ys ≡ i + suc (length ys) = omega arith in
      laid_append (set xs i y) (suc i) ys zs ∙ ap (λ (k : ℕ). laid (laid (set xs i y) (suc i) ys) k zs) e

  -- one element more, as a loop lays it
  pub laid_snoc
      : (xs : List A) (i : ℕ) (ys : List A) (v : A)
      → laid xs i (ys ++ (v ∷ [])) ≡ set (laid xs i ys) (i + length ys) v
  unfolding laid
  laid_snoc xs i ys v = laid_append xs i ys (v ∷ [])

  pub length_laid : (xs : List A) (i : ℕ) (ys : List A) → length (laid xs i ys) ≡ length xs
  unfolding laid
  length_laid xs i [] = refl
  length_laid xs i (y ∷ ys) = length_laid (set xs i y) (suc i) ys ∙ length-set xs i y

  -- ---- an element before the place of a laying, and two layings that do not meet
  pub set_laid
      : (xs : List A) (k : ℕ) (v : A) (i : ℕ) (ys : List A) → k < i
      → laid (set xs k v) i ys ≡ set (laid xs i ys) k v
  unfolding laid
  set_laid xs k v i [] h = refl
  set_laid xs k v i (y ∷ ys) h =
      ap (λ (l : List A). laid l (suc i) ys) (set_comm xs k i v y (λ e. omega arith)) ∙ set_laid (set xs i y) k v
      (suc i) ys (omega arith)

  pub laid_laid
      : (xs : List A) (i j : ℕ) (ys zs : List A) → i + length ys ≤ j
      → laid (laid xs j zs) i ys ≡ laid (laid xs i ys) j zs
  unfolding laid
  laid_laid xs i j [] zs h = refl
  laid_laid xs i j (y ∷ ys) zs h =
      ap (λ (l : List A). laid l (suc i) ys) (sym (set_laid xs i y j zs (omega arith))) ∙ laid_laid (set xs i y)
      (suc i) j ys zs (omega arith)

  -- ---- what goes past the end is lost
  pub laid_past : (xs : List A) (i : ℕ) (ys : List A) → length xs ≤ i → laid xs i ys ≡ xs
  unfolding laid
  laid_past xs i [] h = refl
  laid_past xs i (y ∷ ys) h = rw (set_out xs i y h) (laid_past xs (suc i) ys (omega arith))

  -- ---- what is read of it
  pub laid_before
      : (xs : List A) (i : ℕ) (ys : List A) (j : ℕ) (d : A) → j < i → get_or (laid xs i ys) j d ≡ get_or xs j d
  unfolding laid
  laid_before xs i [] j d h = refl
  laid_before xs i (y ∷ ys) j d h =
      laid_before (set xs i y) (suc i) ys j d (omega arith) ∙ get_or-set_other xs i j y d (λ e. omega arith)

  pub laid_after
      : (xs : List A) (i : ℕ) (ys : List A) (j : ℕ) (d : A) → i + length ys ≤ j
      → get_or (laid xs i ys) j d ≡ get_or xs j d
  unfolding laid
  laid_after xs i [] j d h = refl
  laid_after xs i (y ∷ ys) j d h =
      laid_after (set xs i y) (suc i) ys j d (omega arith) ∙ get_or-set_other xs i j y d (λ e. omega arith)

  pub laid_here
      : (xs : List A) (i : ℕ) (ys : List A) (k : ℕ) (d : A) → k < length ys → i + k < length xs
      → get_or (laid xs i ys) (i + k) d ≡ get_or ys k d
  unfolding laid
  laid_here xs i [] k d h l = absurd (omega arith)
  laid_here xs i (y ∷ ys) zero d h l =
      rw add-zero (laid_before (set xs i y) (suc i) ys i d (omega arith) ∙ get_or-set_same xs i y d (omega arith))
  laid_here xs i (y ∷ ys) (suc k) d h l =
      let e : i + suc k ≡ suc i + k = omega arith in
      rw e (laid_here (set xs i y) (suc i) ys k d (omega arith) (omega (arith, length-set xs i y)))

  -- ---- over the front of a list, and over all of it
  laid_sets : (xs : List A) (i : ℕ) (ys : List A) → laid xs i ys ≡ sets xs i ys
  unfolding laid
  laid_sets xs i [] = refl
  laid_sets xs i (y ∷ ys) = laid_sets (set xs i y) (suc i) ys

  pub laid_front : (xs ys : List A) → length ys ≤ length xs → laid xs 0 ys ≡ ys ++ drop (length ys) xs
  laid_front xs ys h =
      let e : 0 + length ys ≡ length ys = omega arith in
      laid_sets xs 0 ys ∙ sets-eq ys xs 0 (omega arith) ∙ ap (λ (n : ℕ). ys ++ drop n xs) e
