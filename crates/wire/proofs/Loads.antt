-- Tables loaded one after the other into parts of one: what stands then is one table behind the other. By the lengths
-- of the parts. Assumes nothing.
use Prim.Native.Nat.{ℕ, ◌+◌, ◌-◌, ◌≤◌}
use mathlib.Core.Path.{◌≡◌, refl, sym, ◌∙◌, ap}
use mathlib.Core.List.{List, [], ◌++◌, append_assoc, append-nil}
use native.Mathlib.Omega.{arith}
use lib.ListN.{length, take, drop, length-drop, length-append, drop_of_length-le}
use lib.Seq.{take_at, drop_at, length-take-le}
use borrow.Author.Tests.{le-leb}
use lib.Ieee.{Float}
use Rattle.words.specs.Words.{word_at, words_of, floats_of}
use Rattle.words.proofs.Runs.{length_from}
use Rattle.wire.specs.Lent.{table_of}
use Rattle.wire.specs.Inside.Parts.{loaded_part}

part_length : {A : Type 0} (l : List A) (k n : ℕ) → k + n ≤ length l → length (take n (drop k l)) ≡ n
part_length l k n h = length-take-le n (drop k l) (omega (arith, length-drop k l))

-- what is left of a table of which a part was lent and loaded
pub part_put
    : (t w ys : List ℕ) (from to : ℕ) → from ≤ to → to ≤ length w
    → ys ≡ words_of t (length (take (to - from) (drop from w)))
    → take from w ++ (ys ++ drop (to - from) (drop from w)) ≡ loaded_part t w from to
unfolding loaded_part
part_put t w ys from to h g e =
    let l : length (take (to - from) (drop from w)) ≡ to - from = part_length w from (to - from) (omega arith) in
    rw (le-leb to (length w) g, le-leb from to h)
    (ap (λ (v : List ℕ). take from w ++ (v ++ drop (to - from) (drop from w))) (e ∙ ap (words_of t) l))

-- the next part: so much is loaded, and then what `t` has
filled
    : (pre rest t w : List ℕ) (from to : ℕ) → w ≡ pre ++ rest → length pre ≡ from → from ≤ to
    → to ≤ length w
    → loaded_part t w from to ≡ (pre ++ words_of t (to - from)) ++ drop (to - from) rest
unfolding loaded_part
filled pre rest t w from to e l h g =
    rw (le-leb to (length w) g, le-leb from to h)
    (rw (e, take_at pre rest from l, drop_at pre rest from l)
    (sym (append_assoc pre (words_of t (to - from)) (drop (to - from) rest))))

pub length_words : (t : List ℕ) (n : ℕ) → length (words_of t n) ≡ n
length_words t n = length_from (word_at t) 0 n

pub table_loaded : (plan args nodes order none w w1 w2 w3 w4 w5 : List ℕ) → length w ≡ 27296 → none ≡ []
    → w1 ≡ loaded_part plan w 0 22288
    → w2 ≡ loaded_part args w1 22288 22432
    → w3 ≡ loaded_part nodes w2 22432 27031
    → w4 ≡ loaded_part order w3 27031 27287
    → w5 ≡ loaded_part none w4 27287 27296
    → w5 ≡ table_of plan args nodes order
unfolding table_of
table_loaded plan args nodes order none w w1 w2 w3 w4 w5 l z e1 e2 e3 e4 e5 =
    let p : List ℕ = words_of plan 22288 in
    let a : List ℕ = p ++ words_of args 144 in
    let n : List ℕ = a ++ words_of nodes 4599 in
    let o : List ℕ = n ++ words_of order 256 in
    let lp : length p ≡ 22288 = length_words plan 22288 in
    let la : length a ≡ 22432 = omega (arith, length-append p (words_of args 144), length_words args 144) in
    let ln : length n ≡ 27031 = omega (arith, length-append a (words_of nodes 4599), length_words nodes 4599) in
    let lo : length o ≡ 27287 = omega (arith, length-append n (words_of order 256), length_words order 256) in
    let r1 : List ℕ = drop 22288 w in
    let r2 : List ℕ = drop 144 r1 in
    let r3 : List ℕ = drop 4599 r2 in
    let r4 : List ℕ = drop 256 r3 in
    let d1 = length-drop 22288 w in
    let d2 = length-drop 144 r1 in
    let d3 = length-drop 4599 r2 in
    let d4 = length-drop 256 r3 in
    let s1 : w1 ≡ p ++ r1 = e1 ∙ filled [] w plan w 0 22288 refl refl (omega arith) (omega arith) in
    let l1 : length w1 ≡ 27296 = ap length s1 ∙ omega (arith, length-append p r1) in
    let s2 : w2 ≡ a ++ r2 = e2 ∙ filled p r1 args w1 22288 22432 s1 lp (omega arith) (omega arith) in
    let l2 : length w2 ≡ 27296 = ap length s2 ∙ omega (arith, length-append a r2) in
    let s3 : w3 ≡ n ++ r3 = e3 ∙ filled a r2 nodes w2 22432 27031 s2 la (omega arith) (omega arith) in
    let l3 : length w3 ≡ 27296 = ap length s3 ∙ omega (arith, length-append n r3) in
    let s4 : w4 ≡ o ++ r4 = e4 ∙ filled n r3 order w3 27031 27287 s3 ln (omega arith) (omega arith) in
    let l4 : length w4 ≡ 27296 = ap length s4 ∙ omega (arith, length-append o r4) in
    let s5 : w5 ≡ (o ++ words_of [] 9) ++ drop 9 r4 = e5 ∙ ap (λ (x : List ℕ). loaded_part x w4 27287 27296) z
    ∙ filled o r4 [] w4 27287 27296 s4 lo (omega arith) (omega arith) in
    let rest : drop 9 r4 ≡ [] = drop_of_length-le r4 {i = 9} (omega arith) in
    s5 ∙ ap (λ (z : List ℕ). (o ++ words_of [] 9) ++ z) rest ∙ append-nil (o ++ words_of [] 9)

pub floats_long
    : (w : List ℕ) (f : List Float) (n : ℕ) → f ≡ floats_of w n → n ≡ 27296 → f ≡ floats_of w 27296
floats_long w f n e l = e ∙ ap (floats_of w) l

-- a table of what stands for four tables is the table of those
pub table_by
    : (p a n o p' a' n' o' w : List ℕ) → p ≡ p' → a ≡ a' → n ≡ n' → o ≡ o'
    → w ≡ table_of p a n o → w ≡ table_of p' a' n' o'
table_by p a n o p' a' n' o' w ep ea en eo e = rw (← ep, ← ea, ← en, ← eo) e
