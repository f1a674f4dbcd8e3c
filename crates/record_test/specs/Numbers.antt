-- What a record gets wherever it is given: a material, a light, a cutter, a piece's own words.
use Rattle.std.specs.Prelude.{ℕ, Bool, not, ◌&&◌, ◌||◌, ltb, eqb}
use Rattle.std.specs.Bool.{beq}
use Rattle.std.specs.Float.Ieee.{eq}
use Rattle.scalar.specs.F32.{f0, f1}
use Rattle.vectors.specs.declared.Vec3.{Vec3}
use Rattle.vectors.specs.Vec.{vsub, vcross, vlength}
use Rattle.refusals.specs.Refusals.{bad_number, no_material, no_extent, wrong_list, unless, lower, lowest_of}
use Rattle.refusals.specs.Ranges.{far, up_to, within_up_to, coordinates, radius}
use Rattle.refusals.specs.Prims.{no_length, prim_number}
use Rattle.plan.specs.declared.Material.{Material}
use Rattle.plan.specs.declared.QuadLight.{QuadLight}
use Rattle.plan.specs.declared.Cutter.{Cutter}
use Rattle.plan.specs.declared.Head.{Head}
use Rattle.plan.specs.Plan.{Cuts, Piece}

unfoldable pub material_number : Material → ℕ  -- "albedo, roughness, metallic 0 to 1"
material_number m = unless bad_number (within_up_to m.albedo f1 && (up_to m.roughness f1 && up_to m.metallic f1))

unfoldable pub dark : Vec3 → Vec3 → Bool  -- "a light's `e1.dot(e1)`, `e2.dot(e2)` or length of `e1` x `e2` is 0"
dark e1 e2 = no_length e1 || (no_length e2 || eq (vlength (vcross e1 e2)) f0)

abbrev pub corners_ok : QuadLight → Bool
corners_ok l = coordinates l.v0 && (coordinates l.v1 && (coordinates l.v2 && coordinates l.v3))

unfoldable pub light_number : QuadLight → ℕ  -- "emission 0 to 10,000"
light_number l =
    lower (unless bad_number (corners_ok l && within_up_to l.emit far))
    (unless no_extent (not (dark (vsub l.v1 l.v0) (vsub l.v3 l.v0))))

unfoldable pub cutter_number : Cutter → ℕ
cutter_number c = prim_number c.kind c.shape

unfoldable pub cuts_number : Cuts → ℕ
cuts_number cs = lowest_of cutter_number cs

unfoldable pub own_number : Bool → ℕ → Head → ℕ  -- 1 for kind, numbers and blend; 3; 4; 5 for the wrong list
own_number planes materials h =
    lower (lower (prim_number h.kind h.shape) (unless bad_number (radius h.blend)))
    (lower (unless no_material (ltb h.material materials)) (unless wrong_list (beq (eqb h.kind 2) planes)))

unfoldable pub piece_own : Bool → ℕ → Piece → ℕ
piece_own planes materials o = own_number planes materials o.head

unfoldable pub piece_cuts : Piece → ℕ  -- what its cutters get
piece_cuts o = cuts_number o.cuts
