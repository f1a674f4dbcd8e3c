-- Bytes are below 256 and words below 2^32: words of bytes are, and bytes of words are. Byte by byte. Assumes nothing.
use Prim.Native.Nat.{ℕ, zero, suc, ◌+◌, ◌*◌, ◌/◌, ◌%◌, ◌<◌}
use native.Mathlib.Omega.{arith}
use mathlib.Core.List.{List, [], ◌∷◌, ◌++◌}
use lib.ListN.{length, set, replicate}
use lib.Dec.{leb, ltb}
use Rattle.words.specs.Lists.{list_from}
use Rattle.words.specs.Words.{le4, word_at, words_of, put4, put_word, put_words}
use Rattle.words.proofs.Laws.{Bytes}
use Rattle.plan.specs.Sections.{plan_words, args_words, nodes_words, order_places}
use Rattle.plan.specs.Records.{word_of}
use Rattle.wire_lengths.specs.Lengths.{plan_bytes}
use Rattle.wire.specs.Lent.{lent_of, table_of, plan_table}
use Rattle.promises.proofs.Tables.{zeros}
use Rattle.promises.proofs.Cases.{either}
use Rattle.promises.proofs.Demand1.Given.{bytes_of}

abbrev pub Small : ℕ → Type 0
Small n = n < 4294967296

-- ---- bytes of words
pub bytes_zero : (k : ℕ) → Bytes (replicate k 0)
bytes_zero k i = omega (arith, zeros k i)

set_bytes : (b : List ℕ) (p x : ℕ) → x < 256 → Bytes b → Bytes (set b p x)
set_bytes [] p x h s k = s k
set_bytes (y ∷ b) zero x h s zero = h
set_bytes (y ∷ b) zero x h s (suc k) = s (suc k)
set_bytes (y ∷ b) (suc p) x h s zero = s 0
set_bytes (y ∷ b) (suc p) x h s (suc k) = set_bytes b p x h (λ j. s (suc j)) k

put_bytes : (b : List ℕ) (i w : ℕ) → Small w → Bytes b → Bytes (put_word b i w)
unfolding put_word
put_bytes b i w h s = either Bytes (ltb i (length b / 4)) (put4 b (4 * i) w) b (four (4 * i)) s
  where
    four : (p : ℕ) → Bytes (put4 b p w)
    four p =
        let b1 : List ℕ = set b p (w % 256) in
        let b2 : List ℕ = set b1 (p + 1) (w / 256 % 256) in
        let b3 : List ℕ = set b2 (p + 2) (w / 65536 % 256) in
        let s1 : Bytes b1 = set_bytes b p (w % 256) (omega arith) s in
        let s2 : Bytes b2 = set_bytes b1 (p + 1) (w / 256 % 256) (omega arith) s1 in
        let s3 : Bytes b3 = set_bytes b2 (p + 2) (w / 65536 % 256) (omega arith) s2 in
        set_bytes b3 (p + 3) (w / 16777216) (omega arith) s3

-- a list of words, each below 2^32
data Words : List ℕ → Type 0 where
  none : Words []
  more : {x : ℕ} {xs : List ℕ} → Small x → Words xs → Words (x ∷ xs)

puts_bytes : (b : List ℕ) (i : ℕ) {ws : List ℕ} → Words ws → Bytes b → Bytes (put_words b i ws)
unfolding put_words
puts_bytes b i none s = s
puts_bytes b i (more {x} h a) s = puts_bytes (put_word b i x) (suc i) a (put_bytes b i x h s)

-- ---- words of bytes
small_from : (f : ℕ → ℕ) → ((i : ℕ) → Small (f i)) → (a n : ℕ) → Words (list_from f a n)
unfolding list_from
small_from f h a zero = none
small_from f h a (suc n) = more (h a) (small_from f h (suc a) n)

pub given_bytes : (g : ℕ → ℕ) → ((i : ℕ) → Small (g i)) → Bytes (bytes_of g)
unfolding bytes_of
given_bytes g h = puts_bytes (replicate 576 0) 0 (small_from g h 0 args_words) (bytes_zero 576)

word_small : (b : List ℕ) → Bytes b → (i : ℕ) → Small (word_at b i)
unfolding word_at
word_small b s i = either Small (ltb i (length b / 4)) (le4 b (4 * i)) 0 (four (4 * i)) (omega arith)
  where
    four : (p : ℕ) → Small (le4 b p)
    four p = omega (arith, s p, s (p + 1), s (p + 2), s (p + 3))

lent_bytes : (b : List ℕ) (n : ℕ) → Bytes b → Bytes (lent_of b n)
unfolding lent_of
lent_bytes b n s = either Bytes (leb n (length b)) b [] s (λ k. omega arith)

join : {xs ys : List ℕ} → Words xs → Words ys → Words (xs ++ ys)
join none b = b
join (more h a) b = more h (join a b)

small_in : {xs : List ℕ} → Words xs → (i : ℕ) → Small (word_of xs i)
small_in none i = omega arith
small_in (more h a) zero = h
small_in (more h a) (suc i) = small_in a i

words : (b : List ℕ) → Bytes b → (n : ℕ) → Words (words_of b n)
words b s n = small_from (word_at b) (word_small b s) 0 n

pub table_small
    : (need : ℕ) (plan args : List ℕ)
    → Bytes plan
    → Bytes args
    → (i : ℕ)
    → Small (word_of (plan_table need plan args) i)
unfolding plan_table table_of
table_small need plan args p a i =
    let rest : (n : ℕ) → Words (words_of [] n) = words [] (λ k. omega arith) in
    let front = words (lent_of plan plan_bytes) (lent_bytes plan plan_bytes p) plan_words in
    let given = words (lent_of args need) (lent_bytes args need a) args_words in
    small_in (join (join (join (join front given) (rest nodes_words)) (rest order_places)) (rest 9)) i
