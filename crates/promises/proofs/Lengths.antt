-- Which lengths of what is lent get no number: those of tables of full size. Test by test, both ways. Assumes nothing.
use Prim.Native.Nat.{ℕ, ◌≤◌}
use mathlib.Core.Path.{◌≡◌}
use mathlib.Core.Logic.{◌↔◌}
use mathlib.Core.List.{List}
use lib.ListN.{length}
use Rattle.wire_lengths.specs.Lengths.{plan_bytes, nodes_bytes, order_bytes, out_bytes, short_number}
use Rattle.wire_lengths.specs.Lengths.{args_before, plan_before, tables_before, tree_tables_before}
use Rattle.promises.specs.Bytes.{FullTree}
use Rattle.promises.specs.Demand1.{Lent}
use Rattle.promises.proofs.Exact.{lower_exact, unless_exact, leb_exact}

short_exact : (bytes full : ℕ) → (short_number bytes full ≡ 0) ↔ (full ≤ bytes)
unfolding short_number
short_exact bytes full = unless_exact 1 (leb_exact full bytes)

pub lent_exact
    : (need : ℕ) (plan args out : List ℕ)
    → (plan_before (length plan) need (length args) (length out) ≡ 0) ↔ Lent need plan args out
unfolding plan_before args_before
lent_exact need plan args out =
    let e = lower_exact (short_exact (length plan) plan_bytes)
    (lower_exact (short_exact (length args) need) (short_exact (length out) out_bytes)) in (
      λ z. let x = e.0 z in record { plan_full = x.0; args_full = x.1.0; out_full = x.1.1 },
      λ l. e.1 (l.plan_full, (l.args_full, l.out_full)),
    )

pub tree_exact
    : (nodes order : List ℕ) → (tables_before (length nodes) (length order) ≡ 0) ↔ FullTree nodes order
unfolding tables_before
tree_exact nodes order =
    let e = lower_exact (short_exact (length nodes) nodes_bytes) (short_exact (length order) order_bytes) in (
      λ z. let x = e.0 z in record { nodes_full = x.0; order_full = x.1 },
      λ t. e.1 (t.nodes_full, t.order_full),
    )

pub lent_tree_exact
    : (need : ℕ) (plan nodes order args out : List ℕ)
    → (tree_tables_before (length plan) (length nodes) (length order) need (length args) (length out) ≡ 0)
    ↔ (Lent need plan args out × FullTree nodes order)
unfolding tree_tables_before
lent_tree_exact need plan nodes order args out = lower_exact (lent_exact need plan args out) (tree_exact nodes order)
