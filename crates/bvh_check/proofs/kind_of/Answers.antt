-- `bvh_check::kind_of` meets its contract: each return is a case of `kind_of`. Assumes nothing.
use mathlib.Core.Path.{sym, ◌∙◌}
use native.Mathlib.Omega.{arith}
use Rattle.bvh_rules.proofs.Level.{hull_at, leaf_start, kind_out, kind_inner, kind_started, kind_leaf}
use Rattle.bvh_rules.proofs.Level.{kind_no_leaf}
use Rattle.bvh_check.proofs.kind_of.Goals as goal

pub overflow_add-result : goal.overflow_add-result
overflow_add-result c =
    omega (
      arith,
      hull_at _ _ _ (sym c.hull_ok.ensures
          ∙ c.if-hull_ok.true),
    )

pub returns-then-v-eq0-2 : goal.returns-then-v-eq0-2
returns-then-v-eq0-2 c =
    kind_inner _ _ _ _ _ _
    (sym c.hull_ok.ensures
    ∙ c.if-hull_ok.true)
    c.if-v-eq0.true c.if-v-eq0-2.true

pub returns-then-v-eq0 : goal.returns-then-v-eq0
returns-then-v-eq0 c =
    kind_started _ _ _ _ _ _
    (sym c.hull_ok.ensures
    ∙ c.if-hull_ok.true)
    c.if-v-eq0.true c.if-v-eq0-2.false

pub overflow_add-result-then-leaf_ok : goal.overflow_add-result-then-leaf_ok
overflow_add-result-then-leaf_ok c =
    omega (
      arith,
      hull_at _ _ _ (sym c.hull_ok.ensures
          ∙ c.if-hull_ok.true),
    )

pub overflow_add-result-then-leaf_ok-2 : goal.overflow_add-result-then-leaf_ok-2
overflow_add-result-then-leaf_ok-2 c =
    omega (
      arith,
      leaf_start _ _ _ _ (sym c.leaf_ok.ensures ∙ c.if-leaf_ok.true),
      c.well_formed,
    )

pub returns-then-leaf_ok : goal.returns-then-leaf_ok
returns-then-leaf_ok c =
    kind_leaf _ _ _ _ _ _
    (sym c.hull_ok.ensures
    ∙ c.if-hull_ok.true)
    c.if-v-eq0.false (sym c.leaf_ok.ensures ∙ c.if-leaf_ok.true)

pub returns-else-leaf_ok : goal.returns-else-leaf_ok
returns-else-leaf_ok c =
    kind_no_leaf _ _ _ _ _ _
    (sym c.hull_ok.ensures
    ∙ c.if-hull_ok.true)
    c.if-v-eq0.false (sym c.leaf_ok.ensures ∙ c.if-leaf_ok.false)

pub returns-else-hull_ok : goal.returns-else-hull_ok
returns-else-hull_ok c = kind_out _ _ _ _ _ _ (sym c.hull_ok.ensures ∙ c.if-hull_ok.false)
