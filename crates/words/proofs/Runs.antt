-- What a loop that fills a list or writes words needs at its start, at a turn and at its end, and what holds of each
-- member of a list. By induction on the list. Assumes nothing.
use Prim.Native.Nat.{ℕ, zero, suc, ◌+◌, ◌-◌, ◌<◌, ◌≤◌, ◌/◌, min}
use mathlib.Core.Path.{◌≡◌, refl, sym, ◌∙◌, ap}
use mathlib.Core.List.{List, [], ◌∷◌, ◌++◌, append-nil}
use native.Mathlib.Numerals.{add-one}
use native.Mathlib.Nat.{add-zero, zero-add}
use native.Mathlib.Omega.{arith}
use lib.ListN.{length, get_or, set, take, drop, replicate, length-drop, drop_of_length-le}
use Rattle.std.proofs.Common.{length-take-le}
use lib.Seq.{drop-cons, take-suc-set, take_all}
use borrow.Author.Tests.{le-ltb}
use Rattle.words.specs.Lists.{list_from, All}
use Rattle.words.specs.Words.{word_at, words_of, put_word, put_words}

module _ {A : Type 0} (f : ℕ → A) where
  pub from_snoc : (a n : ℕ) → list_from f a (suc n) ≡ list_from f a n ++ (f (a + n) ∷ [])
  unfolding list_from
  from_snoc a zero = rw add-zero
  from_snoc a (suc n) =
      let e : a + suc n ≡ suc a + n = omega arith in
      rw e (ap (λ (l : List A). f a ∷ l) (from_snoc (suc a) n))

  -- in two parts, and one that is the same all over
  pub from_parts : (a m n : ℕ) → list_from f a (m + n) ≡ list_from f a m ++ list_from f (a + m) n
  unfolding list_from
  from_parts a zero n = rw (add-zero, zero-add)
  from_parts a (suc m) n =
      let e : a + suc m ≡ suc a + m = omega arith in
      let s : suc m + n ≡ suc (m + n) = omega arith in
      rw (e, s) (ap (λ (l : List A). f a ∷ l) (from_parts (suc a) m n))

  pub from_const : (v : A) (a n : ℕ) → ((k : ℕ) → a ≤ k → k < a + n → f k ≡ v) → list_from f a n ≡ replicate n v
  unfolding list_from
  from_const v a zero h = refl
  from_const v a (suc n) h =
      rw (h a (omega arith) (omega arith))
      (ap (λ (l : List A). v ∷ l) (from_const v (suc a) n (λ k p q. h k (omega arith) (omega arith))))

  pub length_from : (a n : ℕ) → length (list_from f a n) ≡ n
  unfolding list_from
  length_from a zero = refl
  length_from a (suc n) = ap suc (length_from (suc a) n)

  -- a loop that writes f 0, f 1, ..: at its start, at a turn and at its end
  pub fill_none : (l : List A) → take 0 l ≡ list_from f 0 0
  unfolding list_from
  fill_none l = refl

  pub fill_more
      : (l : List A) (i : ℕ) (v : A)
      → i < length l
      → v ≡ f i
      → take i l ≡ list_from f 0 i
      → take (i + 1) (set l i v) ≡ list_from f 0 (i + 1)
  fill_more l i v h e p =
      let z : 0 + i ≡ i = omega arith in
      rw (add-one, take-suc-set l i v h, from_snoc 0 i, z, p, e)

  pub fill_all
      : (l : List A) (i n : ℕ) → length l ≡ n → n ≤ i → i ≤ n → take i l ≡ list_from f 0 i
      → l ≡ list_from f 0 n
  fill_all l i n e h k p =
      let q : i ≡ n = omega arith in
      sym (take_all i l (omega arith)) ∙ p ∙ ap (list_from f 0) q

-- two lists of functions of the index that agree, and what such a list holds
module _ {A : Type 0} where
  pub from_same
      : (f g : ℕ → A) (a b n : ℕ)
      → ((k : ℕ) → k < n → f (a + k) ≡ g (b + k))
      → list_from f a n ≡ list_from g b n
  unfolding list_from
  from_same f g a b zero h = refl
  from_same f g a b (suc n) h =
      let here : f a ≡ g b = ap f (omega arith) ∙ h 0 (omega arith) ∙ ap g (omega arith) in
      let next : (k : ℕ) → k < n → f (suc a + k) ≡ g (suc b + k)
      = λ k p. ap f (omega arith) ∙ h (suc k) (omega arith) ∙ ap g (omega arith) in
      rw (here, from_same f g (suc a) (suc b) n next)

  pub get_d_from : (f : ℕ → A) (a n i : ℕ) (d : A) → i < n → get_or (list_from f a n) i d ≡ f (a + i)
  unfolding list_from
  get_d_from f a zero i d h = absurd (omega arith)
  get_d_from f a (suc n) zero d h = rw add-zero
  get_d_from f a (suc n) (suc i) d h = get_d_from f (suc a) n i d (omega arith) ∙ ap f (omega arith)

  pub get_d_past : (f : ℕ → A) (a n i : ℕ) (d : A) → n ≤ i → get_or (list_from f a n) i d ≡ d
  unfolding list_from
  get_d_past f a zero i d h = refl
  get_d_past f a (suc n) zero d h = absurd (omega arith)
  get_d_past f a (suc n) (suc i) d h = get_d_past f (suc a) n i d (omega arith)

  -- what holds of each of such a list holds at each index
  pub All-from
      : (P : A → Type 0) (f : ℕ → A) (a n : ℕ) → All P (list_from f a n) → (k : ℕ) → k < n
      → P (f (a + k))
  unfolding list_from
  All-from P f a zero s k h = absurd (omega arith)
  All-from P f a (suc n) s zero h = rw add-zero s.0
  All-from P f a (suc n) s (suc k) h =
      let e : a + suc k ≡ suc a + k = omega arith in
      rw e (All-from P f (suc a) n s.1 k (omega arith))

  pub all_map : (P Q : A → Type 0) → ((x : A) → P x → Q x) → (xs : List A) → All P xs → All Q xs
  all_map P Q f [] s = tt
  all_map P Q f (x ∷ xs) s = (f x s.0, all_map P Q f xs s.1)

  pub all_snoc : (P : A → Type 0) (xs : List A) (x : A) → All P xs → P x → All P (xs ++ (x ∷ []))
  all_snoc P [] x s p = (p, tt)
  all_snoc P (y ∷ xs) x s p = (s.0, all_snoc P xs x s.1 p)

-- a turn of a loop that writes words from 0 on
pub puts_step
    : (b ws : List ℕ) (i : ℕ)
    → i < length ws
    → put_words b i (drop i ws) ≡ put_words (put_word b i (get_or ws i 0)) (i + 1) (drop (i + 1) ws)
unfolding put_words
puts_step b ws i h = rw (drop-cons ws i 0 h, add-one)

-- past the bytes every word is 0
pub word_past : (b : List ℕ) (i : ℕ) → length b / 4 ≤ i → 0 ≡ word_at b i
unfolding word_at
word_past b i h = rw (le-ltb i (length b / 4) h)

-- the words that the bytes have, and zeros in the place of the others
pub with_zeros
    : (b w zeros : List ℕ) (m : ℕ)
    → m ≡ min (length w) (length b / 4)
    → take m w ≡ words_of b m
    → zeros ≡ replicate (length (take (length w - m) (drop m w))) 0
    → take m w ++ (zeros ++ drop (length w - m) (drop m w)) ≡ words_of b (length w)
with_zeros b w zeros m e t z =
    let n : m + (length w - m) ≡ length w = omega arith in
    let d : length (drop m w) ≡ length w - m = length-drop m w in
    let k : length (take (length w - m) (drop m w)) ≡ length w - m = length-take-le (length w - m) (drop m w) (omega arith) in
    let over : (i : ℕ) → 0 + m ≤ i → i < 0 + m + (length w - m) → word_at b i ≡ 0
    = λ i h q. sym (word_past b i (omega arith)) in
    rw (
      drop_of_length-le (drop m w) {i = length w - m} (omega arith),
      append-nil,
      z,
      k,
      t,
      sym (from_const (word_at b) 0 (0 + m) (length w - m) over),
    )
    (sym (from_parts (word_at b) 0 m (length w - m)) ∙ ap (words_of b) n)
