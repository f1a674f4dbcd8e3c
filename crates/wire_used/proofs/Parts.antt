-- The words of a table of which a part was loaded, place by place: those of what was loaded inside the part, and those
-- that stood outside it. By the lengths of what stands one behind the other. Assumes nothing.
use Prim.Native.Nat.{ℕ, suc, ◌+◌, ◌*◌, ◌-◌, ◌/◌, ◌<◌, ◌≤◌}
use mathlib.Core.Path.{◌≡◌, refl, sym, ◌∙◌, ap}
use mathlib.Core.Bool.{Bool, cond}
use mathlib.Core.Logic.{⊎_elim}
use mathlib.Core.List.{List, [], ◌∷◌, ◌++◌}
use native.Mathlib.Omega.{arith}
use borrow.Author.Tests.{le-leb, lt-ltb, le-ltb}
use lib.ListN.{length, take, drop, get_or, get_or-append, length-drop, length-append}
use lib.Seq.{get_or-append-add, get_or-take, get_or-drop, length-take-le}
use lib.Dec.{ltb}
use Rattle.words.specs.Words.{word_at, words_of, le4}
use Rattle.words.proofs.Laws.{less_or}
use Rattle.words.proofs.Runs.{length_from, get_d_from}
use Rattle.plan.specs.Records.{word_of}
use Rattle.wire.specs.Inside.Parts.{loaded_part}

module _ {A : Type 0} (d : A) where
  -- equal members make equal lists
  pub List-ext
      : (xs ys : List A) → length xs ≡ length ys → ((i : ℕ) → i < length xs → get_or xs i d ≡ get_or ys i d) → xs ≡ ys
  List-ext [] [] l h = refl
  List-ext [] (y ∷ ys) l h = let no : ⊥ = omega (arith, l) in absurd no
  List-ext (x ∷ xs) [] l h = let no : ⊥ = omega (arith, l) in absurd no
  List-ext (x ∷ xs) (y ∷ ys) l h =
      ap (λ (z : A). z ∷ xs) (h 0 (omega arith))
      ∙ ap (λ (zs : List A). y ∷ zs) (List-ext xs ys (omega (arith, l)) (λ i k. h (suc i) (omega (arith, k))))

  -- a member of three lists one behind the other
  module _ (xs ys zs : List A) (i : ℕ) where
    first : i < length xs → get_or (xs ++ (ys ++ zs)) i d ≡ get_or xs i d
    first h = get_or-append xs (ys ++ zs) d i h

    second : length xs ≤ i → i < length xs + length ys → get_or (xs ++ (ys ++ zs)) i d ≡ get_or ys (i - length xs) d
    second h g =
        let e : i ≡ length xs + (i - length xs) = omega (arith, h) in
        ap (λ (k : ℕ). get_or (xs ++ (ys ++ zs)) k d) e
        ∙ get_or-append-add xs (ys ++ zs) (i - length xs) d
        ∙ get_or-append ys zs d (i - length xs) (omega (arith, h, g))

    third
        : length xs + length ys ≤ i
        → get_or (xs ++ (ys ++ zs)) i d ≡ get_or zs (i - (length xs + length ys)) d
    third h =
        let e : i ≡ length xs + (length ys + (i - (length xs + length ys))) = omega (arith, h) in
        ap (λ (k : ℕ). get_or (xs ++ (ys ++ zs)) k d) e
        ∙ get_or-append-add xs (ys ++ zs) (length ys + (i - (length xs + length ys))) d
        ∙ get_or-append-add ys zs (i - (length xs + length ys)) d

module _ (t w x : List ℕ) (from to : ℕ) (h : from ≤ to) (g : to ≤ length w) (e : x ≡ loaded_part t w from to) where
  is : x ≡ take from w ++ (words_of t (to - from) ++ drop (to - from) (drop from w))
  unfolding loaded_part
  is = e ∙ rw (le-leb to (length w) g, le-leb from to h)

  la : length (take from w) ≡ from
  la = length-take-le from w (omega (arith, h, g))

  lb : length (words_of t (to - from)) ≡ to - from
  lb = length_from (word_at t) 0 (to - from)

  pub part_long : length x ≡ length w
  part_long =
      ap length is
      ∙ omega (
        arith,
        h,
        g,
        la,
        lb,
        length-append (take from w) (words_of t (to - from) ++ drop (to - from) (drop from w)),
        length-append (words_of t (to - from)) (drop (to - from) (drop from w)),
        length-drop (to - from) (drop from w),
        length-drop from w,
      )

  module _ (i : ℕ) where
    pub part_before : i < from → word_of x i ≡ word_of w i
    part_before k =
        ap (λ (l : List ℕ). word_of l i) is
        ∙ first 0 (take from w) (words_of t (to - from)) (drop (to - from) (drop from w)) i (omega (arith, la, k))
        ∙ get_or-take from w i 0 k

    pub part_in : from ≤ i → i < to → word_of x i ≡ word_at t (i - from)
    part_in k l =
        let at : 0 + (i - length (take from w)) ≡ i - from = omega (arith, la) in
        ap (λ (l : List ℕ). word_of l i) is
        ∙ second 0 (take from w) (words_of t (to - from)) (drop (to - from) (drop from w)) i (omega (arith, la, k))
        (omega (arith, la, lb, l))
        ∙ get_d_from (word_at t) 0 (to - from) (i - length (take from w)) 0 (omega (arith, la, k, l))
        ∙ ap (word_at t) at

    pub part_after : to ≤ i → word_of x i ≡ word_of w i
    part_after k =
        let at : from + (to - from + (i - (length (take from w) + length (words_of t (to - from))))) ≡ i
        = omega (arith, la, lb, h, k) in
        let rest : ℕ = i - (length (take from w) + length (words_of t (to - from))) in
        ap (λ (l : List ℕ). word_of l i) is
        ∙ third 0 (take from w) (words_of t (to - from)) (drop (to - from) (drop from w)) i (omega (arith, la, lb, h, k))
        ∙ get_or-drop (to - from) (drop from w) rest 0
        ∙ get_or-drop from w (to - from + rest) 0
        ∙ ap (word_of w) at

-- the words of what a table has from a word on
fits_drop : (l n i : ℕ) → ltb i ((l - 4 * n) / 4) ≡ ltb (n + i) (l / 4)
fits_drop l n i =
    ⊎_elim
    (λ h. lt-ltb i ((l - 4 * n) / 4) h ∙ sym (lt-ltb (n + i) (l / 4) (omega (arith, h))))
    (λ h. le-ltb i ((l - 4 * n) / 4) h ∙ sym (le-ltb (n + i) (l / 4) (omega (arith, h))))
    (less_or i ((l - 4 * n) / 4))

pub word_drop : (b : List ℕ) (n i : ℕ) → word_at (drop (4 * n) b) i ≡ word_at b (n + i)
unfolding word_at
word_drop b n i =
    let at : (k : ℕ) → 4 * n + (4 * i + k) ≡ 4 * (n + i) + k = λ k. omega arith in
    let zero : 4 * n + 4 * i ≡ 4 * (n + i) = omega arith in
    rw (
      get_or-drop (4 * n) b (4 * i) 0,
      get_or-drop (4 * n) b (4 * i + 1) 0,
      get_or-drop (4 * n) b (4 * i + 2) 0,
      get_or-drop (4 * n) b (4 * i + 3) 0,
      zero,
      at 1,
      at 2,
      at 3,
      length-drop (4 * n) b,
    )
    (ap (λ (c : Bool). cond c (le4 b (4 * (n + i))) 0) (fits_drop (length b) n i))
