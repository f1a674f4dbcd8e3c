-- `shade::direct` meets its contract: each turn is a step. Assumes nothing.
use borrow.Author.Rules.{rules}
use mathlib.Core.Path.{◌≡◌, sym}
use Rattle.bvh_search.specs.Field.{field_by}
use Rattle.shade.specs.Direct.{direct_step, direct_of}
use Rattle.shade.proofs.Lights.{step_most}
use Rattle.shade.proofs.direct.Goals as goal

pub lights_by-requires-clause-few : goal.lights_by-requires-clause-few
lights_by-requires-clause-few c = λ out l r p.
    let a = c.args in
    let s = c.site_of-s.result in
    let w = c.view_of-w.result in
    let e : r ≡ direct_step (field_by a.tree a.ws.now a.fs.now) s w out l = search rules in
    rw e (step_most _ _ _ _ _)

pub returns : goal.returns
unfolding direct_of
returns c =
    let a = c.args in
    let s = c.site_of-s.result in
    let w = c.view_of-w.result in
    rw (sym c.site_of-s.ensures, sym c.view_of-w.ensures)
    (c.lights_by.ensures (direct_step (field_by a.tree a.ws.now a.fs.now) s w) (λ out l r p. search rules))
