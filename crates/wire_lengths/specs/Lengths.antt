-- What applies by the tables' lengths, before a word is judged.
use Rattle.std.specs.Prelude.{ℕ, cond, leb, eqb}
use Rattle.refusals.specs.Refusals.{bad_number, no_room, unless, lower}

-- plan 22,288 words, nodes 4,599, order 256, and sixteen words of an answer, in bytes
abbrev pub plan_bytes : ℕ
plan_bytes = 89152

abbrev pub nodes_bytes : ℕ
nodes_bytes = 18396

abbrev pub order_bytes : ℕ
order_bytes = 1024

abbrev pub out_bytes : ℕ
out_bytes = 64

unfoldable pub short_number : ℕ → ℕ → ℕ  -- a table of so many bytes that is short of its full size gets 2
short_number bytes full = unless no_room (leb full bytes)

unfoldable pub args_before : ℕ → ℕ → ℕ → ℕ  -- arguments of which a call reads `need` bytes, and its answer
args_before need args out = lower (short_number args need) (short_number out out_bytes)

unfoldable pub plan_before : ℕ → ℕ → ℕ → ℕ → ℕ
plan_before plan need args out = lower (short_number plan plan_bytes) (args_before need args out)

unfoldable pub tables_before : ℕ → ℕ → ℕ
tables_before nodes order = lower (short_number nodes nodes_bytes) (short_number order order_bytes)

unfoldable pub tree_tables_before : ℕ → ℕ → ℕ → ℕ → ℕ → ℕ → ℕ  -- a call that writes the tree's tables
tree_tables_before plan nodes order need args out = lower (plan_before plan need args out) (tables_before nodes order)

unfoldable pub tree_before : ℕ → ℕ → ℕ → ℕ  -- "`tree` is 1 for the tree, 0 for the plain list; another number gets 1"
tree_before tree nodes order = cond (eqb tree 1) (tables_before nodes order) (unless bad_number (eqb tree 0))

unfoldable pub ask_before : ℕ → ℕ → ℕ → ℕ → ℕ → ℕ → ℕ → ℕ  -- a call that asks
ask_before need plan nodes order tree args out = lower (plan_before plan need args out) (tree_before tree nodes order)
