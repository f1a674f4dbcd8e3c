-- `shade::lights_by` meets its contract: the light and the count so far are those of the lights passed. Assumes
-- nothing.
use mathlib.Core.Path.{◌≡◌, sym}
use native.Mathlib.Omega.{arith}
use Rattle.shade.proofs.Lights.{lights_taken, panels_few, lit_none, lit_more}
use Rattle.shade.proofs.lights_by.Goals as goal

pub loop-j-init : goal.loop-j-init
loop-j-init g c = (omega arith, λ f h. rw c.splat.ensures (lit_none f _ _))

pub overflow_add-sum : goal.overflow_add-sum
overflow_add-sum g c =
    let few = c.requires.few _ _ _ c.step-lit.ensures in
    let most = panels_few c.args.ws.now in
    record { fits = omega (arith, few, most, c.panels_in-j-end.ensures) }

pub loop-j-preserved : goal.loop-j-preserved
loop-j-preserved g c = (
  (let few = c.requires.few _ _ _ c.step-lit.ensures in omega (arith, few)),
  λ f h.
      lit_more f _ _ c.loop-j.j _ c.step-lit.result (c.loop-j.invariant.1 f h)
      (rw (sym c.light_in.ensures) (h _ _ _ c.step-lit.ensures)),
)

pub returns : goal.returns
returns g c = λ f h.
    let e : c.panels_in-j-end.result ≡ c.loop-j.j = omega arith in
    rw (lights_taken, sym c.panels_in-j-end.ensures, e) (c.loop-j.invariant.1 f h)
