-- `emitter_list::emitter_among` meets its contract: a turn is one step of the list that is left. Assumes nothing.
use Rattle.std.proofs.Common.{◌≡◌, ℕ, ◌+◌, ◌<◌, List, length, drop, get_or, refl, add-one, drop-cons, arith}
use Rattle.std.proofs.Math.ListN.{drop_of_length-le}
use lib.Ieee.{Float}
use Rattle.vectors.specs.declared.Vec3.{Vec3}
use Rattle.plan.specs.declared.QuadLight.{QuadLight}
use Rattle.std.specs.Prelude.{Option}
use Rattle.emitter.specs.declared.Emitted.{Emitted}
use Rattle.emitter.specs.Emitter.{emitter_from, emitter_of, emitter_step}
use Rattle.emitter_list.proofs.emitter_among.Goals as goal

turn : (ls : List QuadLight) (i : ℕ) (d : QuadLight) (ro rd : Vec3) (tmax : Float) (b b' w : Option Emitted)
    → i < length ls → b' ≡ emitter_step ro rd tmax b (get_or ls i d) → emitter_from ro rd tmax b (drop i ls) ≡ w
    → emitter_from ro rd tmax b' (drop (i + 1) ls) ≡ w
unfolding emitter_from
turn ls i d ro rd tmax b b' w h e f = rw (e, add-one) (rw (drop-cons ls i d h) at f)

pub loop-i-init : goal.loop-i-init
unfolding emitter_of
loop-i-init c = refl

pub loop-i-preserved : goal.loop-i-preserved
loop-i-preserved c =
    let left : c.loop-i.i < length c.args.lights.now = omega arith in
    turn _ _ _ _ _ _ _ _ _ left c.emitter_step-best.ensures c.loop-i.invariant

pub returns : goal.returns
unfolding emitter_from
returns c = rw (drop_of_length-le c.args.lights.now {i = c.loop-i.i} (omega arith)) at c.loop-i.invariant
