-- `bvh_search::run` meets its contract: each turn of the loop is a pop, after which what is still to run is the whole
-- run. Assumes nothing.
use Rattle.std.proofs.Common.{refl, ◌∙◌, arith}
use Rattle.bvh_search.proofs.Machine.{step_law, ran_out}
use Rattle.bvh_search.proofs.Plus.{key_fits, key_wide}
use Rattle.bvh_search.proofs.run.Goals as goal

pub float_to_float-s : goal.float_to_float-s
float_to_float-s c = rw c.square_at.ensures (key_wide _ _ _ _)

pub loop-s-init : goal.loop-s-init
loop-s-init c = record {
  waits = record {
    long = (omega arith);
    room = omega arith;
    small = omega arith;
    going = refl;
    limit = c.limit.ensures;
    held = λ k h. absurd (omega arith);
  };
  key = c.square_at.ensures;
  run = refl;
}

pub returns-in-Ended : goal.returns-in-Ended
returns-in-Ended c =
    let i = c.loop-s.invariant in
    let e = c.step-s.ensures i.waits.limit (rw i.key (key_fits _ _ _ _)) in
    c.answer.ensures ∙ (step_law _ _ _ _ _ _ _ _ _ i c.loop-s-test.true _ e).over c.in-Ended.is

pub returns-in-Full : goal.returns-in-Full
returns-in-Full c =
    let i = c.loop-s.invariant in
    let e = c.step-s.ensures i.waits.limit (rw i.key (key_fits _ _ _ _)) in
    c.answer-in-Full.ensures ∙ (step_law _ _ _ _ _ _ _ _ _ i c.loop-s-test.true _ e).cut c.in-Full.is

pub loop-s-smaller : goal.loop-s-smaller
loop-s-smaller c =
    let i = c.loop-s.invariant in
    let e = c.step-s.ensures i.waits.limit (rw i.key (key_fits _ _ _ _)) in
    let few = c.loop-s-test.true in
    omega (arith, few, (step_law _ _ _ _ _ _ _ _ _ i few _ e).pops)

pub loop-s-preserved : goal.loop-s-preserved
loop-s-preserved c =
    let i = c.loop-s.invariant in
    let e = c.step-s.ensures i.waits.limit (rw i.key (key_fits _ _ _ _)) in
    (step_law _ _ _ _ _ _ _ _ _ i c.loop-s-test.true _ e).on c.in-Going.is

pub returns : goal.returns
returns c = c.answer-2.ensures ∙ ran_out _ _ _ _ _ _ _ _ _ c.loop-s.invariant c.loop-s-test.false
