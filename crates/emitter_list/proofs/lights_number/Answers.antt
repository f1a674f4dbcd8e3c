-- `emitter_list::lights_number` meets its contract: one light more is one at the end of those passed. Assumes nothing.
use Rattle.std.proofs.Common.{◌≡◌, ℕ, ◌+◌, ◌<◌, List, length, take, get_or, refl, sym, add-one, arith}
use Rattle.std.proofs.Math.Seq.{take-suc, take-length}
use Rattle.plan.specs.declared.QuadLight.{QuadLight}
use Rattle.refusals.specs.Refusals.{lower, lowest_of}
use Rattle.refusals.proofs.Lowest.{lowest_snoc}
use Rattle.record_test.specs.Numbers.{light_number}
use Rattle.emitter_list.proofs.lights_number.Goals as goal

turn : (ls : List QuadLight) (k o m n : ℕ) (d : QuadLight) → k < length ls → m ≡ lowest_of light_number (take k ls)
    → o ≡ light_number (get_or ls k d) → n ≡ lower m o → n ≡ lowest_of light_number (take (k + 1) ls)
turn ls k o m n d h e q f =
    rw (add-one, take-suc ls k d h, lowest_snoc light_number (take k ls) (get_or ls k d), f, e, q)

pub loop-l-init : goal.loop-l-init
unfolding lowest_of
loop-l-init c = refl

pub loop-l-preserved : goal.loop-l-preserved
loop-l-preserved c =
    turn _ _ _ _ _ _ c.loop-l-test.true c.loop-l.invariant c.light_number-own.ensures c.lower-least.ensures

pub returns : goal.returns
returns c =
    let e : c.loop-l.l-index ≡ length c.args.lights.now = omega arith in
    rw (sym (take-length c.args.lights.now), sym e) c.loop-l.invariant
