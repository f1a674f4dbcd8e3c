-- `refusals::shape_of` meets its contract: each arm is a kind. Assumes nothing.
use Rattle.std.proofs.Common.{sym}
use Rattle.refusals.proofs.ByKind.{shape_by}
use Rattle.refusals.proofs.shape_of.Goals as goal

pub returns-in-Sphere : goal.returns-in-Sphere
returns-in-Sphere c = rw (shape_by, sym c.shape_kind.ensures, c.in-Sphere.is)

pub returns-in-RoundBox : goal.returns-in-RoundBox
returns-in-RoundBox c = rw (shape_by, sym c.shape_kind.ensures, c.in-RoundBox.is)

pub returns-in-Plane : goal.returns-in-Plane
returns-in-Plane c = rw (shape_by, sym c.shape_kind.ensures, c.in-Plane.is)

pub returns-in-Capsule : goal.returns-in-Capsule
returns-in-Capsule c = rw (shape_by, sym c.shape_kind.ensures, c.in-Capsule.is)

pub returns-in-Torus : goal.returns-in-Torus
returns-in-Torus c = rw (shape_by, sym c.shape_kind.ensures, c.in-Torus.is)

pub returns-in-Cylinder : goal.returns-in-Cylinder
returns-in-Cylinder c = rw (shape_by, sym c.shape_kind.ensures, c.in-Cylinder.is)

pub returns-in-Cone : goal.returns-in-Cone
returns-in-Cone c = rw (shape_by, sym c.shape_kind.ensures, c.in-Cone.is)
