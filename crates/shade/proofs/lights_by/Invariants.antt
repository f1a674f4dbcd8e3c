-- What the loop of `shade::lights_by` keeps: few evaluations, and the lights passed, by whatever function the step is.
use Prim.Native.Nat.{◌*◌, ◌≤◌}
use mathlib.Core.Path.{◌≡◌}
use Rattle.scalar.specs.F32.{f0}
use Rattle.words.specs.Lists.{list_from}
use Rattle.vectors.specs.declared.Vec3.{Vec3}
use Rattle.vectors.specs.Vec.{vsplat}
use Rattle.plan.specs.declared.QuadLight.{QuadLight}
use Rattle.plan.specs.Records.{light_in}
use Rattle.shade.specs.declared.Lit.{Lit}
use Rattle.shade.specs.Direct.{Gives, lights_by}
use Rattle.shade.proofs.lights_by.Given as goal

abbrev pub invariant-loop-j : goal.invariant-loop-j
invariant-loop-j g l =
    (l.sum.count ≤ 96 * l.j)
    × ((f : Vec3 → QuadLight → Lit)
    → Gives (λ out q r. goal.F-post g l.step out q r) f
    → l.sum ≡ lights_by f (list_from (light_in l.fs) 0 l.j) (vsplat f0) 0)
