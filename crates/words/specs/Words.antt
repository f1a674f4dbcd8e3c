-- "Every table is a row of 32-bit words, lent as a byte slice, four bytes to a word, little-endian."
use Rattle.std.specs.Prelude.{ℕ, suc, ◌+◌, ◌*◌, ◌/◌, ◌%◌, cond, List, [], ◌∷◌, length, get_or, set, leb, ltb, Float}
use Rattle.std.specs.Float.{binary32}
use Rattle.std.specs.Float.Ieee.{of_bits}
use Rattle.words.specs.Lists.{list_from}

abbrev pub le4 : List ℕ → ℕ → ℕ  -- the number of the four bytes from p
le4 b p = get_or b p 0 + 256 * get_or b (p + 1) 0 + 65536 * get_or b (p + 2) 0 + 16777216 * get_or b (p + 3) 0

unfoldable pub word_at : List ℕ → ℕ → ℕ  -- word i, and 0 where the bytes do not have all of it
word_at b i = cond (ltb i (length b / 4)) (le4 b (4 * i)) 0

abbrev pub words_of : List ℕ → ℕ → List ℕ  -- the first n words
words_of b n = list_from (word_at b) 0 n

unfoldable pub float_at : List ℕ → ℕ → Float  -- a table's words seen as floats, a NaN's bits a NaN; 0 past its end
float_at ws i = of_bits binary32 (get_or ws i 0)

abbrev pub floats_of : List ℕ → ℕ → List Float
floats_of ws n = list_from (float_at ws) 0 n

abbrev pub put4 : List ℕ → ℕ → ℕ → List ℕ  -- the four bytes from p, replaced by those of w
put4 b p w =
    set (set (set (set b p (w % 256)) (p + 1) (w / 256 % 256)) (p + 2) (w / 65536 % 256)) (p + 3) (w / 16777216)

unfoldable pub put_word : List ℕ → ℕ → ℕ → List ℕ  -- word i replaced, where the bytes have all of it
put_word b i w = cond (ltb i (length b / 4)) (put4 b (4 * i) w) b

unfoldable pub put_words : List ℕ → ℕ → List ℕ → List ℕ  -- the words from i on replaced
put_words b i [] = b
put_words b i (w ∷ ws) = put_words (put_word b i w) (suc i) ws

abbrev pub with_words : List ℕ → List ℕ → List ℕ  -- the first words replaced
with_words b ws = put_words b 0 ws

unfoldable pub sent_words : List ℕ → List ℕ → List ℕ  -- an answer's words: all, or none where they have no room
sent_words b ws = cond (leb (length ws) (length b / 4)) (with_words b ws) b
