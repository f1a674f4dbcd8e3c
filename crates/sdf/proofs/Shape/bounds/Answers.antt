-- `Shape::bounds` meets its contract: each arm is a case of `bounds_of`. Assumes nothing.
use Rattle.sdf.specs.Boxes.{bounds_of}
use Rattle.sdf.proofs.Shape.bounds.Goals as goal

pub returns-in-Sphere : goal.returns-in-Sphere
unfolding bounds_of
returns-in-Sphere c = rw (c.in-Sphere.is, c.spread.ensures, c.splat.ensures)

pub returns-in-RoundBox : goal.returns-in-RoundBox
unfolding bounds_of
returns-in-RoundBox c = rw (c.in-RoundBox.is, c.spread-in-RoundBox.ensures)

pub returns-in-Plane : goal.returns-in-Plane
unfolding bounds_of
returns-in-Plane c = rw c.in-Plane.is

pub returns-in-Capsule : goal.returns-in-Capsule
unfolding bounds_of
returns-in-Capsule c = rw (c.in-Capsule.is, c.around.ensures)

pub returns-in-Torus : goal.returns-in-Torus
unfolding bounds_of
returns-in-Torus c = rw (c.in-Torus.is, c.spread-in-Torus.ensures)

pub returns-in-Cylinder : goal.returns-in-Cylinder
unfolding bounds_of
returns-in-Cylinder c = rw (c.in-Cylinder.is, c.around-in-Cylinder.ensures)

pub returns-in-Cone : goal.returns-in-Cone
unfolding bounds_of
returns-in-Cone c = rw (c.in-Cone.is, c.around-in-Cone.ensures, c.max.ensures)
