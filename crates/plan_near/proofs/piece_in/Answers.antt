-- `plan_near::piece_in` meets its contract: by what the primitive's distance tells, and then the cutters. Assumes
-- nothing.
use mathlib.Core.Path.{refl}
use mathlib.Core.Logic.{inr}
use native.Mathlib.Omega.{arith}
use Rattle.plan_near.proofs.Rows.{row_passed, row_carved}
use Rattle.plan_near.proofs.piece_in.Goals as goal

pub returns-then-t-whole : goal.returns-then-t-whole
returns-then-t-whole c = let a = c.args in
    λ k. inr (
      refl,
      row_passed a.ws.now a.fs.now a.r (record { x = a.x; y = a.y; z = a.z }) a.t
          c.dist_in-whole.result (c.dist_in-whole.ensures (omega (arith, k))) c.if-t-whole.true,
    )

pub returns-then-r-lt-ROWS : goal.returns-then-r-lt-ROWS
returns-then-r-lt-ROWS c = let a = c.args in
    λ k. row_carved a.ws.now a.fs.now a.r (record { x = a.x; y = a.y; z = a.z }) a.t
    c.dist_in-whole.result (c.dist_in-whole.ensures (omega (arith, k))) c.if-t-whole.false c.carve.result c.carve.ensures

pub returns : goal.returns
returns c = λ k. let no : ⊥ = omega (arith, k, c.if-r-lt-ROWS.false) in absurd no
