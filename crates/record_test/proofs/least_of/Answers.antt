-- `record_test::least_of` meets its contract: each arm is a kind. Assumes nothing.
use Rattle.std.proofs.Common.{arith}
use borrow.Author.Tests.{ne_eqb}
use Rattle.refusals.specs.declared.Kind.TheVariants.{Sphere, RoundBox, Plane, Capsule, Torus, Cylinder, Cone}
use Rattle.refusals.proofs.ByKind.{kind_is, no_kind}
use Rattle.record_test.specs.Inside.Prims.{least_of}
use Rattle.record_test.proofs.least_of.Goals as goal

pub returns-in-Ok-Sphere : goal.returns-in-Ok-Sphere
unfolding least_of
returns-in-Ok-Sphere c = rw (kind_is c.args.kind Sphere (rw c.in-Ok-Sphere.field-0-is at c.in-Ok-Sphere.ensures))

pub returns-in-Ok-RoundBox : goal.returns-in-Ok-RoundBox
unfolding least_of
returns-in-Ok-RoundBox c = rw (kind_is c.args.kind RoundBox (rw c.in-Ok-RoundBox.field-0-is at c.in-Ok-RoundBox.ensures))

pub returns-in-Ok-Plane : goal.returns-in-Ok-Plane
unfolding least_of
returns-in-Ok-Plane c = rw (kind_is c.args.kind Plane (rw c.in-Ok-Plane.field-0-is at c.in-Ok-Plane.ensures))

pub returns-in-Ok-Capsule : goal.returns-in-Ok-Capsule
unfolding least_of
returns-in-Ok-Capsule c = rw (kind_is c.args.kind Capsule (rw c.in-Ok-Capsule.field-0-is at c.in-Ok-Capsule.ensures))

pub returns-in-Ok-Torus : goal.returns-in-Ok-Torus
unfolding least_of
returns-in-Ok-Torus c = rw (kind_is c.args.kind Torus (rw c.in-Ok-Torus.field-0-is at c.in-Ok-Torus.ensures))

pub returns-in-Ok-Cylinder : goal.returns-in-Ok-Cylinder
unfolding least_of
returns-in-Ok-Cylinder c = rw (kind_is c.args.kind Cylinder (rw c.in-Ok-Cylinder.field-0-is at c.in-Ok-Cylinder.ensures))

pub returns-in-Ok-Cone : goal.returns-in-Ok-Cone
unfolding least_of
returns-in-Ok-Cone c = rw (kind_is c.args.kind Cone (rw c.in-Ok-Cone.field-0-is at c.in-Ok-Cone.ensures))

pub returns-in-Err : goal.returns-in-Err
unfolding least_of
returns-in-Err c =
    let none = no_kind c.args.kind _ c.in-Err.ensures in
    simp (ne_eqb c.args.kind 0 (λ e. omega arith), ne_eqb c.args.kind 1 (λ e. omega arith), ne_eqb c.args.kind 4 (λ e. omega arith))
