-- `trace::trace` meets its contract: what is left of the march, from the parameter in hand and after the evaluations
-- made, is the whole march. Assumes nothing.
use mathlib.Core.Path.{refl}
use native.Mathlib.Omega.{arith}
use Rattle.trace.specs.declared.Step.TheVariants.{Found, Past, On}
use Rattle.trace.specs.Trace.{follow, trace_of}
use Rattle.trace.proofs.Marches.{march_turn, march_next, march_spent}
use Rattle.trace.proofs.trace.Goals as goal

pub loop-count-init : goal.loop-count-init
unfolding trace_of
loop-count-init c = refl

pub returns-in-Found : goal.returns-in-Found
unfolding follow
returns-in-Found c =
    let l = c.loop-count in
    march_turn _ _ _ _ _ l.count _ (omega arith) (omega arith) l.invariant (Found _) (cc)

pub returns-in-Past : goal.returns-in-Past
unfolding follow
returns-in-Past c =
    let l = c.loop-count in
    march_turn _ _ _ _ _ l.count _ (omega arith) (omega arith) l.invariant Past (cc)

pub loop-count-preserved : goal.loop-count-preserved
unfolding follow
loop-count-preserved c =
    let l = c.loop-count in
    march_next _ _ _ _ _ l.count _
    (march_turn _ _ _ _ _ l.count _ (omega arith) (omega arith) l.invariant (On _) (cc))

pub returns : goal.returns
returns c = let l = c.loop-count in march_spent _ _ _ _ l.t l.count _ (omega arith) l.invariant
