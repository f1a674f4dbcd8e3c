-- `bvh_check::check_sub` meets its contract: each return is a case of one level of `check_of`. Assumes nothing.
use mathlib.Core.Path.{◌∙◌, sym, ap}
use native.Mathlib.Nat.{pos_of_ne-zero}
use native.Mathlib.Omega.{arith}
use Prim.Native.Nat.{◌≤◌}
use Rattle.std.specs.Prelude.{Some}
use Rattle.bvh_rules.proofs.Level.{check_none, check_wrong, check_leaf, check_left_bad, check_right}
use Rattle.bvh_rules.proofs.Level.{check_other}
use Rattle.bvh_rules.proofs.Tests.{kind_leaf_to}
use Rattle.bvh_boxes.proofs.Lists.{box_count}
use Rattle.bvh_check.specs.Inside.Part.{told}
use Rattle.bvh_check.proofs.+check_sub.Goals as goal

pub returns-then-level-eq0 : goal.returns-then-level-eq0
returns-then-level-eq0 t c = check_none _ _ _ _ _ _ _ _ c.if-level-eq0.true

pub returns-in_err-k : goal.returns-in_err-k
returns-in_err-k t c =
    ap told c.from_residual.ensures
    ∙ check_wrong _ _ _ _ _ _ _ _ c.node_at-v.ensures _ c.kind_of.ensures _ (pos_of_ne-zero c.if-level-eq0.false)
    c.in_err-k.was

pub returns-in-Leaf : goal.returns-in-Leaf
returns-in-Leaf t c =
    check_leaf _ _ _ _ _ _ _ _ c.node_at-v.ensures _ c.kind_of.ensures _ (pos_of_ne-zero c.if-level-eq0.false) _ _
    (c.in_ok-k.was ∙ ap Some c.in-Leaf.is)

-- the end is at most the number of objects, which is a word
pub overflow_cast-result : goal.overflow_cast-result
overflow_cast-result t c =
    let a = c.args in
    let leaf = kind_leaf_to _ _ _ _ _ _ _ _ (sym c.kind_of.ensures ∙ c.in_ok-k.was ∙ ap Some c.in-Leaf.is) in
    let few = leaf.leafs.few in
    let last = leaf.last in
    let all = box_count a.ws.now a.fs.now in
    let most : c.in-Leaf.ends ≤ c.object_count-most.result =
    omega (arith, few, last, all, c.object_count-most.ensures) in
    record { fits = omega (arith, most) }

pub returns-in_err-part-in-Inner : goal.returns-in_err-part-in-Inner
returns-in_err-part-in-Inner t c =
    ap told c.from_residual-in_err-part-in-Inner.ensures
    ∙ check_left_bad _ _ _ _ _ _ _ _ c.node_at-v.ensures _ c.kind_of.ensures _ (pos_of_ne-zero c.if-level-eq0.false) _ _
    (c.in_ok-k.was ∙ ap Some c.in-Inner.is) _ c.check_sub.ensures (ap told c.in_err-part-in-Inner.was)

pub returns-then-right-part : goal.returns-then-right-part
returns-then-right-part t c =
    check_right _ _ _ _ _ _ _ _ c.node_at-v.ensures _ c.kind_of.ensures _ (pos_of_ne-zero c.if-level-eq0.false) _ _
    (c.in_ok-k.was ∙ ap Some c.in-Inner.is) _ c.check_sub.ensures _ _ (ap told c.in_ok-part-in-Inner.was) _ c.if-right-part.true
    c.check_sub-then-right-part.ensures

pub returns-else-right-part : goal.returns-else-right-part
returns-else-right-part t c =
    check_other _ _ _ _ _ _ _ _ c.node_at-v.ensures _ c.kind_of.ensures _ (pos_of_ne-zero c.if-level-eq0.false) _ _
    (c.in_ok-k.was ∙ ap Some c.in-Inner.is) _ c.check_sub.ensures _ _ (ap told c.in_ok-part-in-Inner.was) c.if-right-part.false
