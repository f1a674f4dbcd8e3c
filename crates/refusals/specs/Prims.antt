-- "Kinds count 0 to 6, and words stand, in the source's order", and what a primitive's numbers must be.
use Rattle.std.specs.Prelude.{ℕ, Bool, false, not, cond, ◌&&◌, leb, eqb, Float}
use Rattle.std.specs.Float.Ieee.{eq}
use Rattle.scalar.specs.F32.{f0}
use Rattle.scalar.specs.Ranges.{magnitude}
use Rattle.vectors.specs.declared.Vec3.{Vec3}
use Rattle.vectors.specs.Vec.{vsub, vdot}
use Rattle.sdf.specs.declared.Shape.{Shape}
use Rattle.sdf.specs.declared.Shape.TheVariants.{Sphere, RoundBox, Plane, Capsule, Torus, Cylinder, Cone}
use Rattle.refusals.specs.Refusals.{bad_number, no_extent, unless, lower}
use Rattle.refusals.specs.Ranges.{far, steep, within, within_up_to, coordinates, radius}

-- a kind and eight floats: a the first three, b the next three, then u and v
unfoldable pub shape_of : ℕ → Vec3 → Vec3 → Float → Float → Shape
shape_of k a b u v =
    cond (eqb k 0) (Sphere a b.x)
    (cond (eqb k 1) (RoundBox a b u)
    (cond (eqb k 2) (Plane a b.x)
    (cond (eqb k 3) (Capsule a b u)
    (cond (eqb k 4) (Torus a b.x b.y)
    (cond (eqb k 5) (Cylinder a b u)
    (Cone a b u v))))))

unfoldable pub shape_ok : Shape → Bool
shape_ok (Sphere c r) = coordinates c && radius r
shape_ok (RoundBox c b r) = coordinates c && (within_up_to b far && radius r)
shape_ok (Plane n h) = within n steep && magnitude h far
shape_ok (Capsule a b r) = coordinates a && (coordinates b && radius r)
shape_ok (Torus c major minor) = coordinates c && (radius major && radius minor)
shape_ok (Cylinder a b r) = coordinates a && (coordinates b && radius r)
shape_ok (Cone a b ra rb) = coordinates a && (coordinates b && (radius ra && radius rb))

unfoldable pub no_length : Vec3 → Bool
no_length v = eq (vdot v v) f0

unfoldable pub flat : Shape → Bool  -- a capsule whose computed `ba.dot(ba)` is 0
flat (Sphere c r) = false
flat (RoundBox c b r) = false
flat (Plane n h) = false
flat (Capsule a b r) = no_length (vsub b a)
flat (Torus c major minor) = false
flat (Cylinder a b r) = false
flat (Cone a b ra rb) = false

unfoldable pub prim_number : ℕ → Shape → ℕ  -- what a primitive gets wherever it is given
prim_number kind s = lower (unless bad_number (leb kind 6 && shape_ok s)) (unless no_extent (not (flat s)))
