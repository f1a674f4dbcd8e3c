-- `bemitondry_emitter::emitter_in` meets its contract: the best so far is that of the records passed. Assumes nothing.
use mathlib.Core.Path.{◌≡◌, sym}
use native.Mathlib.Nat.{zero-add}
use native.Mathlib.Omega.{arith}
use Rattle.bemitondry_emitter.proofs.Records.{emitter_none, emitter_more}
use Rattle.bemitondry_emitter.proofs.emitter_in.Goals as goal

pub loop-i-init : goal.loop-i-init
loop-i-init c = sym (emitter_none _ _ _ _)

pub loop-i-preserved : goal.loop-i-preserved
loop-i-preserved c =
    rw (emitter_more, zero-add, c.emitter_step-best.ensures, c.light_in.ensures) (rw c.loop-i.invariant)

pub returns : goal.returns
returns c =
    let e : c.loop-i.i ≡ c.args.n = omega arith in
    rw (sym e) c.loop-i.invariant
