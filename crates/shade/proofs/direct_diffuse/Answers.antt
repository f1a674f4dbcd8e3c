-- `shade::direct_diffuse` meets its contract: each turn is a step. Assumes nothing.
use borrow.Author.Rules.{rules}
use mathlib.Core.Path.{◌≡◌, sym}
use Rattle.bvh_search.specs.Field.{field_by}
use Rattle.shade.specs.Direct.{diffuse_step, direct_diffuse_of}
use Rattle.shade.proofs.Lights.{diffuse_most}
use Rattle.shade.proofs.direct_diffuse.Goals as goal

pub lights_by-requires-clause-few : goal.lights_by-requires-clause-few
lights_by-requires-clause-few c = λ out l r p.
    let a = c.args in
    let s = c.site_of-s.result in
    let e : r ≡ diffuse_step (field_by a.tree a.ws.now a.fs.now) s a.albedo out l = search rules in
    rw e (diffuse_most _ _ _ _ _)

pub returns : goal.returns
unfolding direct_diffuse_of
returns c =
    let a = c.args in
    let s = c.site_of-s.result in
    rw (sym c.site_of-s.ensures)
    (c.lights_by.ensures (diffuse_step (field_by a.tree a.ws.now a.fs.now) s a.albedo) (λ out l r p. search rules))
