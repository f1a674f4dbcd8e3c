-- Lent tables. "An `args` shorter than the call reads is a short table (2) whose words are not judged."
use Rattle.std.specs.Prelude.{ℕ, ◌+◌, cond, List, [], ◌++◌, length, leb, eqb, Float}
use Rattle.std.specs.Float.{binary32}
use Rattle.std.specs.Float.Ieee.{of_bits}
use Rattle.vectors.specs.declared.Vec3.{Vec3}
use Rattle.words.specs.Words.{word_at, words_of}
use Rattle.plan.specs.Sections.{plan_words, args_words, nodes_words, order_places}
use Rattle.wire_lengths.specs.Lengths.{plan_bytes, nodes_bytes, order_bytes}

unfoldable pub lent_of : List ℕ → ℕ → List ℕ  -- a short table stands as all zero: none of its bytes are there
lent_of t full = cond (leb full (length t)) t []

unfoldable pub used_of : ℕ → List ℕ → ℕ → List ℕ  -- "looked at only where the tree is used": where `tree` is 1
used_of tree t full = cond (eqb tree 1) (lent_of t full) []

unfoldable pub given_float : List ℕ → ℕ → Float
given_float t i = of_bits binary32 (word_at t i)

unfoldable pub given_vec : List ℕ → ℕ → Vec3
given_vec t i = record { x = given_float t i; y = given_float t (i + 1); z = given_float t (i + 2) }

-- what a call works on: plan, arguments, nodes and order, and zeros to a whole row
unfoldable pub table_of : List ℕ → List ℕ → List ℕ → List ℕ → List ℕ
table_of plan args nodes order =
    (((words_of plan plan_words ++ words_of args args_words) ++ words_of nodes nodes_words) ++ words_of order order_places)
    ++ words_of [] 9

unfoldable pub plan_table : ℕ → List ℕ → List ℕ → List ℕ  -- of a call on the plan that reads `need` bytes of arguments
plan_table need plan args = table_of (lent_of plan plan_bytes) (lent_of args need) [] []

unfoldable pub ask_table : ℕ → List ℕ → List ℕ → List ℕ → ℕ → List ℕ → List ℕ
ask_table need plan nodes order tree args =
    table_of (lent_of plan plan_bytes) (lent_of args need) (used_of tree nodes nodes_bytes) (used_of tree order order_bytes)
