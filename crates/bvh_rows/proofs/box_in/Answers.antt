-- `bvh_rows::box_in` meets its contract: each arm is a kind. Assumes nothing.
use mathlib.Core.Path.{sym}
use Rattle.sdf.specs.Boxes.{bounds_of, box_of}
use Rattle.refusals.proofs.ByKind.{shape_by}
use Rattle.bvh_rows.proofs.box_in.Goals as goal

pub returns-in-Sphere : goal.returns-in-Sphere
unfolding box_of bounds_of
returns-in-Sphere c = rw (shape_by, sym c.shape_kind.ensures, c.in-Sphere.is, c.spread.ensures, c.splat.ensures)

pub returns-in-RoundBox : goal.returns-in-RoundBox
unfolding box_of bounds_of
returns-in-RoundBox c = rw (shape_by, sym c.shape_kind.ensures, c.in-RoundBox.is, c.spread-in-RoundBox.ensures)

pub returns-in-Plane : goal.returns-in-Plane
unfolding box_of bounds_of
returns-in-Plane c = rw (shape_by, sym c.shape_kind.ensures, c.in-Plane.is, c.splat-in-Plane-2.ensures, c.splat-in-Plane.ensures)

pub returns-in-Capsule : goal.returns-in-Capsule
unfolding box_of bounds_of
returns-in-Capsule c = rw (shape_by, sym c.shape_kind.ensures, c.in-Capsule.is, c.around.ensures)

pub returns-in-Torus : goal.returns-in-Torus
unfolding box_of bounds_of
returns-in-Torus c = rw (shape_by, sym c.shape_kind.ensures, c.in-Torus.is, c.spread-in-Torus.ensures)

pub returns-in-Cylinder : goal.returns-in-Cylinder
unfolding box_of bounds_of
returns-in-Cylinder c = rw (shape_by, sym c.shape_kind.ensures, c.in-Cylinder.is, c.around-in-Cylinder.ensures)

pub returns-in-Cone : goal.returns-in-Cone
unfolding box_of bounds_of
returns-in-Cone c = rw (shape_by, sym c.shape_kind.ensures, c.in-Cone.is, c.around-in-Cone.ensures, c.max.ensures)
