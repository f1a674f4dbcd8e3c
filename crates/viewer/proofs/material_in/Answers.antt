-- `viewer::material_in` meets its contract, by those of its calls. Assumes nothing.
use Rattle.viewer.specs.Calls.{given_material}
use Rattle.viewer.proofs.material_in.Goals as goal

pub returns : goal.returns
unfolding given_material
returns c = rw (c.float_at-2.ensures, c.float_at.ensures, c.vec_at.ensures)
