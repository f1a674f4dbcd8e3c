-- `trace::soft_shadow` meets its contract: what is left of the march, from the cone in hand and after the evaluations
-- made, is the whole march. Assumes nothing.
use Prim.Native.Nat.{◌-◌}
use mathlib.Core.Path.{refl, ◌∙◌}
use native.Mathlib.Omega.{arith}
use Rattle.std.specs.Prelude.{Some, None}
use Rattle.trace.specs.Shadow.{pass, shadow_of}
use Rattle.trace.proofs.Shadows.{cone_turn, cone_past, cone_spent}
use Rattle.trace.proofs.soft_shadow.Goals as goal

pub loop-made-init : goal.loop-made-init
unfolding shadow_of
loop-made-init c = refl

pub returns-then-not-c-ray : goal.returns-then-not-c-ray
returns-then-not-c-ray c =
    let l = c.loop-made in
    c.seen.ensures ∙ cone_past _ _ _ _ _ (96 - l.made) l.c l.made _ c.if-not-c-ray.true l.invariant

pub returns-in_default : goal.returns-in_default
unfolding pass
returns-in_default c =
    let l = c.loop-made in
    cone_turn _ _ _ _ _ _ l.made _ (omega arith) c.if-not-c-ray.false l.invariant None (cc)

pub loop-made-preserved : goal.loop-made-preserved
unfolding pass
loop-made-preserved c =
    let l = c.loop-made in
    cone_turn _ _ _ _ _ _ l.made _ (omega arith) c.if-not-c-ray.false l.invariant (Some _) (cc)

pub returns : goal.returns
returns c = let l = c.loop-made in c.seen-2.ensures ∙ cone_spent _ _ _ _ _ l.c l.made _ (omega arith) l.invariant
