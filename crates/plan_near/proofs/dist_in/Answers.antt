-- `plan_near::dist_in` meets its contract: each arm is a kind. Assumes nothing.
use mathlib.Core.Logic.{inl}
use mathlib.Core.Path.{sym}
use native.Mathlib.Omega.{arith}
use Rattle.sdf.specs.Shapes.{plane, dist_of}
use Rattle.refusals.proofs.ByKind.{shape_by}
use Rattle.plan_near.proofs.dist_in.Goals as goal

pub returns-then-i-ge-EIGHT_LEFT : goal.returns-then-i-ge-EIGHT_LEFT
returns-then-i-ge-EIGHT_LEFT c = λ h. absurd (omega (arith, h, c.if-i-ge-EIGHT_LEFT.true))

pub returns-in-Sphere : goal.returns-in-Sphere
unfolding dist_of
returns-in-Sphere c = λ _. rw (shape_by, sym c.shape_kind.ensures, c.in-Sphere.is) c.sphere.ensures

pub returns-in-RoundBox : goal.returns-in-RoundBox
unfolding dist_of
returns-in-RoundBox c = λ _. rw (shape_by, sym c.shape_kind.ensures, c.in-RoundBox.is) c.round_box.ensures

pub returns-in-Plane : goal.returns-in-Plane
unfolding dist_of plane
returns-in-Plane c = λ _. rw (shape_by, sym c.shape_kind.ensures, c.in-Plane.is) (inl (rw c.dot.ensures))

pub returns-in-Capsule : goal.returns-in-Capsule
unfolding dist_of
returns-in-Capsule c = λ _. rw (shape_by, sym c.shape_kind.ensures, c.in-Capsule.is) c.capsule.ensures

pub returns-in-Torus : goal.returns-in-Torus
unfolding dist_of
returns-in-Torus c = λ _. rw (shape_by, sym c.shape_kind.ensures, c.in-Torus.is) c.torus.ensures

pub returns-in-Cylinder : goal.returns-in-Cylinder
unfolding dist_of
returns-in-Cylinder c = λ _. rw (shape_by, sym c.shape_kind.ensures, c.in-Cylinder.is) c.cylinder.ensures

pub returns-in-Cone : goal.returns-in-Cone
unfolding dist_of
returns-in-Cone c = λ _. rw (shape_by, sym c.shape_kind.ensures, c.in-Cone.is) c.cone.ensures
