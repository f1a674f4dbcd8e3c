-- Words in bytes: what is put is read back, nothing else changes, and what is loaded and stored again is the same. By
-- the place of each byte. Assumes nothing.
use Prim.Native.Nat.{ℕ, zero, suc, ◌+◌, ◌*◌, ◌/◌, ◌%◌, ◌<◌, ◌≤◌, min}
use mathlib.Core.Path.{◌≡◌, refl, sym, ◌∙◌, ap}
use mathlib.Core.Bool.{true, false}
use mathlib.Core.Logic.{◌⊎◌, ⊎_elim, inl, inr}
use mathlib.Core.List.{List, [], ◌∷◌}
use native.Mathlib.Nat.{add-zero, le_trans}
use native.Mathlib.Omega.{arith}
use lib.ListN.{length, get_or, set, drop, length-set, drop_of_length-le, get_or-eq_default}
use lib.Seq.{get_or-set_same, get_or-set_other, set-get_or}
use lib.Dec.{ltb}
use borrow.Author.Tests.{lt-ltb, le-ltb, ltb-true, ltb-false}
use Rattle.words.specs.Lists.{list_from}
use Rattle.words.specs.Words.{le4, word_at, words_of, put4, put_word, put_words, with_words}

-- what lies past a table of at most n
pub past_end : {A : Type 0} (xs : List A) (d : A) (n i : ℕ) → length xs ≤ n → n ≤ i → get_or xs i d ≡ d
past_end xs d n i l h = get_or-eq_default xs d {n = i} (le_trans l h)

-- ---- whether the bytes have word i
pub less_or : (m n : ℕ) → (m < n) ⊎ (n ≤ m)
less_or m n = pick (ltb m n) refl
  where
    pick : (t : _) → ltb m n ≡ t → (m < n) ⊎ (n ≤ m)
    pick true e = inl (ltb-true m n e)
    pick false e = inr (ltb-false m n e)

abbrev has : (b : List ℕ) (i : ℕ) → (i < length b / 4) ⊎ (length b / 4 ≤ i)
has b i = less_or i (length b / 4)

pub put_in : (b : List ℕ) (i w : ℕ) → i < length b / 4 → put_word b i w ≡ put4 b (4 * i) w
unfolding put_word
put_in b i w h = rw (lt-ltb i (length b / 4) h)

pub put_out : (b : List ℕ) (i w : ℕ) → length b / 4 ≤ i → put_word b i w ≡ b
unfolding put_word
put_out b i w h = rw (le-ltb i (length b / 4) h)

word_in : (b : List ℕ) (i : ℕ) → i < length b / 4 → word_at b i ≡ le4 b (4 * i)
unfolding word_at
word_in b i h = rw (lt-ltb i (length b / 4) h)

word_out : (b : List ℕ) (i : ℕ) → length b / 4 ≤ i → word_at b i ≡ 0
unfolding word_at
word_out b i h = rw (le-ltb i (length b / 4) h)

-- ---- lengths are kept
pub length_put4 : (b : List ℕ) (p w : ℕ) → length (put4 b p w) ≡ length b
length_put4 b p w = simp length-set

pub length_put : (b : List ℕ) (i w : ℕ) → length (put_word b i w) ≡ length b
length_put b i w = ⊎_elim (λ h. rw (put_in b i w h) (length_put4 b (4 * i) w)) (λ h. rw (put_out b i w h)) (has b i)

pub length_puts : (b : List ℕ) (i : ℕ) (ws : List ℕ) → length (put_words b i ws) ≡ length b
unfolding put_words
length_puts b i [] = refl
length_puts b i (w ∷ ws) = length_puts (put_word b i w) (suc i) ws ∙ length_put b i w

-- ---- the four bytes
abbrev st1 : List ℕ → ℕ → ℕ → List ℕ
st1 b p w = set b p (w % 256)

abbrev st2 : List ℕ → ℕ → ℕ → List ℕ
st2 b p w = set (st1 b p w) (p + 1) (w / 256 % 256)

abbrev st3 : List ℕ → ℕ → ℕ → List ℕ
st3 b p w = set (st2 b p w) (p + 2) (w / 65536 % 256)

off : (b : List ℕ) (p w k : ℕ) → (k < p) ⊎ (p + 4 ≤ k) → get_or (put4 b p w) k 0 ≡ get_or b k 0
off b p w k h =
    let n : (d : ℕ) → d < 4 → k ≡ p + d → ⊥ = λ d q e. ⊎_elim (λ a. omega arith)
    (λ a. omega arith) h in
    let n0 : k ≡ p → ⊥ = λ e. ⊎_elim (λ a. omega arith) (λ a. omega arith) h in
    get_or-set_other (st3 b p w) (p + 3) k (w / 16777216) 0 (n 3 (omega arith))
    ∙ get_or-set_other (st2 b p w) (p + 2) k (w / 65536 % 256) 0 (n 2 (omega arith))
    ∙ get_or-set_other (st1 b p w) (p + 1) k (w / 256 % 256) 0 (n 1 (omega arith))
    ∙ get_or-set_other b p k (w % 256) 0 n0

module _ (b : List ℕ) (p w : ℕ) (fit : p + 4 ≤ length b) where
  g3 : get_or (put4 b p w) (p + 3) 0 ≡ w / 16777216
  g3 = get_or-set_same (st3 b p w) (p + 3) (w / 16777216) 0 (simp length-set (omega arith))

  g2 : get_or (put4 b p w) (p + 2) 0 ≡ w / 65536 % 256
  g2 =
      get_or-set_other (st3 b p w) (p + 3) (p + 2) (w / 16777216) 0 (λ e. omega arith)
      ∙ get_or-set_same (st2 b p w) (p + 2) (w / 65536 % 256) 0 (simp length-set (omega arith))

  g1 : get_or (put4 b p w) (p + 1) 0 ≡ w / 256 % 256
  g1 =
      get_or-set_other (st3 b p w) (p + 3) (p + 1) (w / 16777216) 0 (λ e. omega arith)
      ∙ get_or-set_other (st2 b p w) (p + 2) (p + 1) (w / 65536 % 256) 0 (λ e. omega arith)
      ∙ get_or-set_same (st1 b p w) (p + 1) (w / 256 % 256) 0 (simp length-set (omega arith))

  g0 : get_or (put4 b p w) p 0 ≡ w % 256
  g0 =
      get_or-set_other (st3 b p w) (p + 3) p (w / 16777216) 0 (λ e. omega arith)
      ∙ get_or-set_other (st2 b p w) (p + 2) p (w / 65536 % 256) 0 (λ e. omega arith)
      ∙ get_or-set_other (st1 b p w) (p + 1) p (w / 256 % 256) 0 (λ e. omega arith)
      ∙ get_or-set_same b p (w % 256) 0 (omega arith)

  pub le_put4 : le4 (put4 b p w) p ≡ w
  le_put4 = rw (g0, g1, g2, g3) (omega arith)

-- ---- a word put is read back, and no other changes
pub word_same : (b : List ℕ) (i w : ℕ) → i < length b / 4 → word_at (put_word b i w) i ≡ w
word_same b i w h =
    rw (put_in b i w h)
    (word_in (put4 b (4 * i) w) i (rw (length_put4 b (4 * i) w) h) ∙ le_put4 b (4 * i) w (omega arith))

pub word_other : (b : List ℕ) (i j w : ℕ) → (j ≡ i → ⊥) → word_at (put_word b i w) j ≡ word_at b j
word_other b i j w n =
    ⊎_elim
    (λ h.
    rw (put_in b i w h)
    (⊎_elim
    (λ q.
    word_in (put4 b (4 * i) w) j (rw (length_put4 b (4 * i) w) q)
    ∙ rw (
      off b (4 * i) w (4 * j) (rw add-zero at (apart 0 (omega arith))),
      off b (4 * i) w (4 * j + 1) (apart 1 (omega arith)),
      off b (4 * i) w (4 * j + 2) (apart 2 (omega arith)),
      off b (4 * i) w (4 * j + 3) (apart 3 (omega arith)),
    )
    (sym (word_in b j q)))
    (λ q. word_out (put4 b (4 * i) w) j (rw (length_put4 b (4 * i) w) q) ∙ sym (word_out b j q))
    (has b j)))
    (λ h. rw (put_out b i w h))
    (has b i)
  where
    apart : (d : ℕ) → d < 4 → (4 * j + d < 4 * i) ⊎ (4 * i + 4 ≤ 4 * j + d)
    apart d q =
        ⊎_elim (λ a. inl (omega arith)) (λ a. ⊎_elim (λ e. inr (omega arith)) (λ e. absurd (n (omega arith)))
        (less_or i j)) (less_or j i)

-- ---- a word put back where it stood changes nothing
abbrev pub Bytes : List ℕ → Type 0
Bytes b = (k : ℕ) → get_or b k 0 < 256

-- the digits of four bytes
module _ (a b c d : ℕ) (ha : a < 256) (hb : b < 256) (hc : c < 256) where
  low : (a + 256 * b + 65536 * c + 16777216 * d) % 256 ≡ a
  low = omega arith

  up : (a + 256 * b + 65536 * c + 16777216 * d) / 256 ≡ b + 256 * c + 65536 * d
  up = omega arith

  up2 : (a + 256 * b + 65536 * c + 16777216 * d) / 65536 ≡ c + 256 * d
  up2 = omega arith

  up3 : (a + 256 * b + 65536 * c + 16777216 * d) / 16777216 ≡ d
  up3 = omega arith

low3 : (b c d : ℕ) → b < 256 → (b + 256 * c + 65536 * d) % 256 ≡ b
low3 b c d h = omega arith

low2 : (c d : ℕ) → c < 256 → (c + 256 * d) % 256 ≡ c
low2 c d h = omega arith

pub put4_same : (b : List ℕ) (p : ℕ) → Bytes b → put4 b p (le4 b p) ≡ b
put4_same b p h =
    rw (
      low (get_or b p 0) (get_or b (p + 1) 0) (get_or b (p + 2) 0) (get_or b (p + 3) 0) (h p) (h (p + 1)) (h (p + 2)),
      up (get_or b p 0) (get_or b (p + 1) 0) (get_or b (p + 2) 0) (get_or b (p + 3) 0) (h p) (h (p + 1)) (h (p + 2)),
      up2 (get_or b p 0) (get_or b (p + 1) 0) (get_or b (p + 2) 0) (get_or b (p + 3) 0) (h p) (h (p + 1)) (h (p + 2)),
      up3 (get_or b p 0) (get_or b (p + 1) 0) (get_or b (p + 2) 0) (get_or b (p + 3) 0) (h p) (h (p + 1)) (h (p + 2)),
      low3 (get_or b (p + 1) 0) (get_or b (p + 2) 0) (get_or b (p + 3) 0) (h (p + 1)),
      low2 (get_or b (p + 2) 0) (get_or b (p + 3) 0) (h (p + 2)),
      set-get_or b p 0,
      set-get_or b (p + 1) 0,
      set-get_or b (p + 2) 0,
      set-get_or b (p + 3) 0,
    )

pub put_same : (b : List ℕ) (i : ℕ) → Bytes b → put_word b i (word_at b i) ≡ b
put_same b i h =
    ⊎_elim (λ q. rw (put_in b i (word_at b i) q, word_in b i q) (put4_same b (4 * i) h))
    (λ q. put_out b i (word_at b i) q) (has b i)

-- ---- the laws of the first words
puts_same : (b : List ℕ) (i n : ℕ) → Bytes b → put_words b i (list_from (word_at b) i n) ≡ b
unfolding put_words list_from
puts_same b i zero h = refl
puts_same b i (suc n) h =
    ap (λ (x : List ℕ). put_words x (suc i) (list_from (word_at b) (suc i) n)) (put_same b i h) ∙ puts_same b
    (suc i) n h

-- loading and storing gives the same bytes
pub load_store : (b : List ℕ) (n : ℕ) → Bytes b → with_words b (words_of b n) ≡ b
load_store b n h = puts_same b 0 n h

-- a word before those that are put
puts_before : (b : List ℕ) (i : ℕ) (ws : List ℕ) (j : ℕ) → j < i → word_at (put_words b i ws) j ≡ word_at b j
unfolding put_words
puts_before b i [] j h = refl
puts_before b i (w ∷ ws) j h =
    puts_before (put_word b i w) (suc i) ws j (omega arith) ∙ word_other b i j w (λ e. omega arith)

puts_back
    : (b : List ℕ) (i : ℕ) (ws : List ℕ) → i + length ws ≤ length b / 4
    → list_from (word_at (put_words b i ws)) i (length ws) ≡ ws
unfolding put_words list_from
puts_back b i [] h = refl
puts_back b i (w ∷ ws) h =
    let h' : suc i + length ws ≤ length (put_word b i w) / 4 = rw (length_put b i w) (omega arith) in
    rw (
      puts_before (put_word b i w) (suc i) ws i (omega arith),
      word_same b i w (omega arith),
      puts_back (put_word b i w) (suc i) ws h',
    )

-- the words stored are the words loaded
pub store_load : (b ws : List ℕ) → 4 * length ws ≤ length b → words_of (with_words b ws) (length ws) ≡ ws
store_load b ws h = puts_back b 0 ws (omega arith)

-- bytes past the table
put_past : (b : List ℕ) (i w k : ℕ) → 4 * i + 4 ≤ k → get_or (put_word b i w) k 0 ≡ get_or b k 0
put_past b i w k h =
    ⊎_elim (λ q. rw (put_in b i w q) (off b (4 * i) w k (inr (omega arith)))) (λ q. rw (put_out b i w q)) (has b i)

puts_past
    : (b : List ℕ) (i : ℕ) (ws : List ℕ) (k : ℕ) → 4 * (i + length ws) ≤ k
    → get_or (put_words b i ws) k 0 ≡ get_or b k 0
unfolding put_words
puts_past b i [] k h = refl
puts_past b i (w ∷ ws) k h = puts_past (put_word b i w) (suc i) ws k (omega arith) ∙ put_past b i w k (omega arith)

pub past_table : (b ws : List ℕ) (k : ℕ) → 4 * length ws ≤ k → get_or (with_words b ws) k 0 ≡ get_or b k 0
past_table b ws k h = puts_past b 0 ws k (omega arith)

-- a loop that stops at the last word that the bytes have, or at the last word
past_all : (b : List ℕ) (i : ℕ) (ws : List ℕ) → length b / 4 ≤ i → put_words b i ws ≡ b
unfolding put_words
past_all b i [] h = refl
past_all b i (w ∷ ws) h =
    ap (λ (x : List ℕ). put_words x (suc i) ws) (put_out b i w h) ∙ past_all b (suc i) ws (omega arith)

pub puts_out : (b ws : List ℕ) (i : ℕ) → min (length ws) (length b / 4) ≤ i → put_words b i (drop i ws) ≡ b
unfolding put_words
puts_out b ws i h =
    ⊎_elim (λ p. past_all b i (drop i ws) (omega arith)) (λ p. rw (drop_of_length-le ws p)) (less_or i (length ws))
