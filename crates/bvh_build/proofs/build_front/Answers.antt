-- `bvh_build::build_front` meets its contract: the places past the objects stand. Assumes nothing.
use Rattle.std.proofs.Common.{◌≡◌, length, take, sym, ◌∙◌, arith, length-take-le}
use Rattle.scalar.specs.F32.{f0}
use Rattle.bvh_build.proofs.Whole.{table_of, builds_some}
use Rattle.bvh_build.proofs.build_front.Goals as goal

pub returns-then-n-ow : goal.returns-then-n-ow
returns-then-n-ow c = λ e l p h. absurd (omega (arith, c.if-n-ow.true))

pub slice_bounds-build_with-end-2 : goal.slice_bounds-build_with-end-2
slice_bounds-build_with-end-2 c = sym (length-take-le _ _ (omega (arith, c.if-n-ow.false)))

pub returns : goal.returns
returns c = λ e l p h.
    let a = c.args in
    let k : length (take a.n a.ow.now) ≡ a.n = length-take-le a.n a.ow.now (omega arith) in
    builds_some _ _ _ _ _ _ _ (c.build_with.ensures (table_of 256 f0) (k ∙ e) (omega arith)
    (omega arith)) e p (omega arith)
