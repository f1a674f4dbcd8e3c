-- `refusals::shape_ok` meets its contract: each arm is a kind. Assumes nothing.
use Rattle.refusals.specs.Prims.{shape_ok}
use Rattle.refusals.proofs.shape_ok.Goals as goal

pub returns-in-Sphere : goal.returns-in-Sphere
unfolding shape_ok
returns-in-Sphere c =
    rw (c.in-Sphere.is, c.both.ensures, c.radius.ensures)
    (rw c.coordinates.ensures)

pub returns-in-RoundBox : goal.returns-in-RoundBox
unfolding shape_ok
returns-in-RoundBox c =
    rw (c.in-RoundBox.is, c.both-in-RoundBox-2.ensures)
    (rw (c.both-in-RoundBox.ensures, c.radius-in-RoundBox.ensures, c.within_up_to.ensures, c.coordinates-in-RoundBox.ensures))

pub returns-in-Plane : goal.returns-in-Plane
unfolding shape_ok
returns-in-Plane c =
    rw (c.in-Plane.is, c.both-in-Plane.ensures, c.magnitude.ensures)
    (rw c.within.ensures)

pub returns-in-Capsule : goal.returns-in-Capsule
unfolding shape_ok
returns-in-Capsule c =
    rw (c.in-Capsule.is, c.both-in-Capsule-2.ensures)
    (rw (c.both-in-Capsule.ensures, c.radius-in-Capsule.ensures, c.coordinates-in-Capsule-2.ensures, c.coordinates-in-Capsule.ensures))

pub returns-in-Torus : goal.returns-in-Torus
unfolding shape_ok
returns-in-Torus c =
    rw (c.in-Torus.is, c.both-in-Torus-2.ensures)
    (rw (c.both-in-Torus.ensures, c.radius-in-Torus-2.ensures, c.radius-in-Torus.ensures, c.coordinates-in-Torus.ensures))

pub returns-in-Cylinder : goal.returns-in-Cylinder
unfolding shape_ok
returns-in-Cylinder c =
    rw (c.in-Cylinder.is, c.both-in-Cylinder-2.ensures)
    (rw (c.both-in-Cylinder.ensures, c.radius-in-Cylinder.ensures, c.coordinates-in-Cylinder-2.ensures, c.coordinates-in-Cylinder.ensures))

pub returns-in-Cone : goal.returns-in-Cone
unfolding shape_ok
returns-in-Cone c =
    rw c.in-Cone.is
    (rw (c.both-in-Cone-3.ensures, c.both-in-Cone-2.ensures, c.both-in-Cone.ensures, c.radius-in-Cone-2.ensures)
    (rw (c.radius-in-Cone.ensures, c.coordinates-in-Cone-2.ensures, c.coordinates-in-Cone.ensures)))
