-- What a call's table has of the bytes lent, and of words stored before: by the lengths of its parts. Assumes nothing.
use Prim.Native.Nat.{ℕ, ◌+◌, ◌-◌, ◌*◌, ◌/◌, ◌<◌, ◌≤◌}
use native.Mathlib.Omega.{arith}
use mathlib.Core.Path.{◌≡◌, refl, sym, ◌∙◌, ap, subst}
use mathlib.Core.Logic.{⊎_elim}
use mathlib.Core.List.{List, [], ◌++◌, append_assoc}
use lib.ListN.{length, take, drop, replicate, length-append, length-replicate, length-take, length-drop}
use lib.ListN.{get_or-append, get_or-eq_default, get_or-replicate}
use lib.Seq.{take_at, drop_at, get_or-append-add, get_or-take, get_or-drop, ext_get_or}
use lib.Dec.{leb, ltb}
use lib.Ieee.{Float, binary32, of_bits, nan}
use borrow.Author.Tests.{le-leb}
use Rattle.words.specs.Words.{word_at, words_of, float_at, floats_of, with_words}
use Rattle.words.proofs.Runs.{length_from, get_d_from}
use Rattle.words.proofs.Laws.{less_or, store_load}
use Rattle.plan.specs.Sections.{plan_words, args_words, nodes_words, order_places, nodes_first, order_first, table_words}
use Rattle.plan.specs.Records.{word_of, float_of}
use Rattle.plan.specs.Plan.{seen}
use Rattle.bvh_rules.specs.Nodes.{nodes_of, order_of}
use Rattle.wire_lengths.specs.Lengths.{plan_bytes}
use Rattle.wire.specs.Lent.{lent_of, used_of, table_of, plan_table}
use Rattle.wire.proofs.Loads.{length_words}
use Rattle.promises.proofs.Cases.{either}

-- ---- words of bytes
word_of_lem : (t : List ℕ) (n i : ℕ) → i < n → word_of (words_of t n) i ≡ word_at t i
word_of_lem t n i h = get_d_from (word_at t) 0 n i 0 h ∙ ap (word_at t) (omega arith)

-- what was stored is loaded
module _ (b ws : List ℕ) (n : ℕ) (size : length ws ≡ n) (fit : 4 * n ≤ length b) where
  pub stored_words : words_of (with_words b ws) n ≡ ws
  stored_words =
      ap (words_of (with_words b ws)) (sym size)
      ∙ store_load b ws (subst (λ (k : ℕ). 4 * k ≤ length b) (sym size) fit)

  pub stored_word : (i : ℕ) → i < n → word_at (with_words b ws) i ≡ word_of ws i
  stored_word i h = sym (word_of_lem (with_words b ws) n i h) ∙ ap (λ (t : List ℕ). word_of t i) stored_words

-- a table of full size is lent whole, and used whole
pub lent_full : (t : List ℕ) (full : ℕ) → full ≤ length t → lent_of t full ≡ t
unfolding lent_of
lent_full t full h = rw (le-leb full (length t) h)

pub used_full : (t : List ℕ) (full : ℕ) → full ≤ length t → used_of 1 t full ≡ t
unfolding used_of
used_full = lent_full

-- ---- a word seen as a float, and a part of a table seen as floats
pub float_word : (w : List ℕ) (m i : ℕ) → i < m → float_of (floats_of w m) i ≡ of_bits binary32 (word_of w i)
unfolding float_at
float_word w m i h =
    get_d_from (float_at w) 0 m i nan h ∙ ap (λ (j : ℕ). of_bits binary32 (word_of w j)) (omega arith)

part_floats
    : (w : List ℕ) (m from n : ℕ)
    → from + n ≤ m
    → take n (drop from (floats_of w m)) ≡ floats_of (take n (drop from w)) n
part_floats w m from n h =
    let part : List ℕ = take n (drop from w) in
    let all : List Float = floats_of w m in
    let lm : length all ≡ m = length_from (float_at w) 0 m in
    let lp : length (take n (drop from all)) ≡ n = simp (length-take, length-drop) (omega arith) in
    ext_get_or nan (take n (drop from all)) (floats_of part n) (lp ∙ sym (length_from (float_at part) 0 n))
    (λ i l.
    let k : i < n = omega arith in
    get_or-take n (drop from all) i nan k
    ∙ get_or-drop from all i nan
    ∙ float_word w m (from + i) (omega arith)
    ∙ ap (of_bits binary32) (sym (get_or-take n (drop from w) i 0 k ∙ get_or-drop from w i 0))
    ∙ sym (float_word part n i k))

-- ---- the table of a call
part_of
    : (a b c : List ℕ) (from n : ℕ)
    → length a ≡ from
    → length b ≡ n
    → take n (drop from ((a ++ b) ++ c)) ≡ b
part_of a b c from n la lb = rw (append_assoc a b c, drop_at a (b ++ c) from la) (take_at b c n lb)

-- what stands after the plan
abbrev rest_of : List ℕ → List ℕ → List ℕ → List ℕ
rest_of a n o = words_of a args_words ++ (words_of n nodes_words ++ (words_of o order_places ++ words_of [] 9))

module _ (p a n o : List ℕ) where
  abbrev P : List ℕ
  P = words_of p plan_words

  abbrev A : List ℕ
  A = words_of a args_words

  abbrev N : List ℕ
  N = words_of n nodes_words

  abbrev O : List ℕ
  O = words_of o order_places

  abbrev Z : List ℕ
  Z = words_of [] 9

  parts : table_of p a n o ≡ P ++ rest_of a n o
  unfolding table_of
  parts = simp append_assoc

  pub table_length : length (table_of p a n o) ≡ table_words
  table_length = ap length parts ∙ simp (length-append, length_from)

  pub table_plan : (i : ℕ) → i < plan_words → word_of (table_of p a n o) i ≡ word_at p i
  table_plan i h =
      ap (λ (t : List ℕ). word_of t i) parts
      ∙ get_or-append P (rest_of a n o) 0 i (omega (arith, length_words p plan_words))
      ∙ word_of_lem p plan_words i h

  table_rest : (j : ℕ) → word_of (table_of p a n o) (plan_words + j) ≡ word_of (rest_of a n o) j
  table_rest j =
      ap (λ (t : List ℕ). word_of t (plan_words + j)) parts
      ∙ ap (λ (k : ℕ). word_of (P ++ rest_of a n o) (k + j)) (sym (length_words p plan_words))
      ∙ get_or-append-add P (rest_of a n o) j 0

  table_args : (i : ℕ) → i < args_words → word_of (table_of p a n o) (plan_words + i) ≡ word_at a i
  table_args i h =
      table_rest i
      ∙ get_or-append A (N ++ (O ++ Z)) 0 i (omega (arith, length_words a args_words))
      ∙ word_of_lem a args_words i h

  pub table_nodes : nodes_of (table_of p a n o) ≡ words_of n nodes_words
  unfolding table_of nodes_of
  table_nodes =
      rw (append_assoc ((P ++ A) ++ N) O Z)
      (part_of (P ++ A) N (O ++ Z) nodes_first nodes_words (simp (length-append, length_from))
      (length_words n nodes_words))

  pub table_floats : nodes_of (seen (table_of p a n o)) ≡ floats_of (words_of n nodes_words) nodes_words
  unfolding nodes_of
  table_floats =
      part_floats (table_of p a n o) table_words nodes_first nodes_words (omega arith)
      ∙ ap (λ (t : List ℕ). floats_of t nodes_words) table_nodes

  pub table_order : order_of (table_of p a n o) ≡ words_of o order_places
  unfolding table_of order_of
  table_order =
      part_of ((P ++ A) ++ N) O Z order_first order_places (simp (length-append, length_from))
      (length_words o order_places)

-- ---- that of a call on the plan
module _ (need : ℕ) (plan args : List ℕ) where
  pub plan_length : length (plan_table need plan args) ≡ table_words
  unfolding plan_table
  plan_length = table_length _ _ _ _

  pub plan_word
      : (i : ℕ) → i < plan_words → word_of (plan_table need plan args) i ≡ word_at (lent_of plan plan_bytes) i
  unfolding plan_table
  plan_word = table_plan _ _ _ _

  pub args_word
      : (i : ℕ)
      → i < args_words
      → word_of (plan_table need plan args) (plan_words + i) ≡ word_at (lent_of args need) i
  unfolding plan_table
  args_word = table_args _ _ _ _

-- the words after the plan are the same for any plan
pub rest_word
    : (need : ℕ) (p q args : List ℕ) (i : ℕ)
    → plan_words ≤ i
    → word_of (plan_table need p args) i ≡ word_of (plan_table need q args) i
unfolding plan_table
rest_word need p q args i h =
    let j : ℕ = i - plan_words in
    let e : plan_words + j ≡ i = omega arith in
    ap (word_of (plan_table need p args)) (sym e)
    ∙ table_rest _ _ _ _ j
    ∙ sym (table_rest _ _ _ _ j)
    ∙ ap (word_of (plan_table need q args)) e

-- ---- that of zero bytes
pub zeros : (k i : ℕ) → word_of (replicate k 0) i ≡ 0
zeros k i =
    ⊎_elim
    (λ p. get_or-replicate {A = ℕ} k i 0 0 p)
    (λ p. get_or-eq_default (replicate k 0) 0 (rw length-replicate p))
    (less_or i k)

zero_word : (k i : ℕ) → word_at (replicate k 0) i ≡ 0
unfolding word_at
zero_word k i =
    rw (zeros k (4 * i), zeros k (4 * i + 1), zeros k (4 * i + 2), zeros k (4 * i + 3))
    (either (λ (n : ℕ). n ≡ 0) (ltb i (length (replicate k 0) / 4)) 0 0 refl refl)

pub zero_plan
    : (need k : ℕ) (args : List ℕ) (i : ℕ)
    → i < plan_words
    → word_of (plan_table need (replicate k 0) args) i ≡ 0
unfolding lent_of
zero_plan need k args i h =
    plan_word need (replicate k 0) args i h
    ∙ either (λ (t : List ℕ). word_at t i ≡ 0) (leb plan_bytes (length (replicate k 0))) (replicate k 0) []
    (zero_word k i) (zero_word 0 i)
