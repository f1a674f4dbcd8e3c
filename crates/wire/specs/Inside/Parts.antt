-- Parts of tables, as they are loaded and stored.
use Rattle.std.specs.Prelude.{ℕ, ◌-◌, cond, ◌&&◌, Bool, List, ◌++◌, length, take, drop, leb}
use Rattle.words.specs.Words.{words_of, with_words}
use Rattle.plan.specs.Sections.{plan_words}

unfoldable pub loaded_part : List ℕ → List ℕ → ℕ → ℕ → List ℕ  -- a table's words loaded from one place up to another
loaded_part t w from to =
    cond (leb to (length w) && leb from to) (take from w ++ (words_of t (to - from) ++ drop (to - from) (drop from w))) w

unfoldable pub stored_front : List ℕ → ℕ → List ℕ → List ℕ  -- the first n words of a table
stored_front words n b = cond (leb n (length words)) (with_words b (take n words)) b

-- the plan's words of a call's table, where they are to be stored
unfoldable pub stored_plan : Bool → List ℕ → List ℕ → List ℕ
stored_plan stores w b = cond stores (with_words b (take plan_words w)) b

unfoldable pub stored_table : Bool → List ℕ → List ℕ → List ℕ
stored_table stores words b = cond stores (with_words b words) b
