-- `record_test::prim_in` meets its contract: each arm is a kind. Assumes nothing.
use mathlib.Core.Path.{sym}
use Rattle.refusals.specs.declared.Kind.TheVariants.{Sphere, RoundBox, Plane, Capsule, Torus, Cylinder, Cone}
use Rattle.refusals.proofs.ByKind.{kind_is, no_kind}
use Rattle.record_test.proofs.Prims.{sphere_number, block_number, plane_number, capsule_number, torus_number}
use Rattle.record_test.proofs.Prims.{cylinder_number, cone_number, other_number}
use Rattle.record_test.proofs.prim_in.Goals as goal

pub returns-in-Ok-Sphere : goal.returns-in-Ok-Sphere
returns-in-Ok-Sphere c =
    rw (kind_is c.args.kind Sphere (rw c.in-Ok-Sphere.field-0-is at c.in-Ok-Sphere.ensures), sphere_number)
    (rw (c.bad_unless.ensures, c.both.ensures, c.radius.ensures, c.coordinates.ensures))

pub returns-in-Ok-RoundBox : goal.returns-in-Ok-RoundBox
returns-in-Ok-RoundBox c =
    rw (kind_is c.args.kind RoundBox (rw c.in-Ok-RoundBox.field-0-is at c.in-Ok-RoundBox.ensures), block_number) (rw (c.bad_unless-in-Ok-RoundBox.ensures, c.block_ok.ensures))

pub returns-in-Ok-Plane : goal.returns-in-Ok-Plane
returns-in-Ok-Plane c =
    rw (kind_is c.args.kind Plane (rw c.in-Ok-Plane.field-0-is at c.in-Ok-Plane.ensures), plane_number) (rw (c.bad_unless-in-Ok-Plane.ensures, c.plane_ok.ensures))

pub returns-in-Ok-Capsule : goal.returns-in-Ok-Capsule
returns-in-Ok-Capsule c = rw (kind_is c.args.kind Capsule (rw c.in-Ok-Capsule.field-0-is at c.in-Ok-Capsule.ensures), capsule_number) c.capsule_number.ensures

pub returns-in-Ok-Torus : goal.returns-in-Ok-Torus
returns-in-Ok-Torus c =
    rw (kind_is c.args.kind Torus (rw c.in-Ok-Torus.field-0-is at c.in-Ok-Torus.ensures), torus_number) (rw (c.bad_unless-in-Ok-Torus.ensures, c.torus_ok.ensures))

pub returns-in-Ok-Cylinder : goal.returns-in-Ok-Cylinder
returns-in-Ok-Cylinder c =
    rw (kind_is c.args.kind Cylinder (rw c.in-Ok-Cylinder.field-0-is at c.in-Ok-Cylinder.ensures), cylinder_number) (rw (c.bad_unless-in-Ok-Cylinder.ensures, c.ends_ok.ensures))

pub returns-in-Ok-Cone : goal.returns-in-Ok-Cone
returns-in-Ok-Cone c =
    rw (kind_is c.args.kind Cone (rw c.in-Ok-Cone.field-0-is at c.in-Ok-Cone.ensures), cone_number) (rw (c.bad_unless-in-Ok-Cone.ensures, c.cone_ok.ensures))

pub returns-in-Err : goal.returns-in-Err
returns-in-Err c =
    let a = c.args in
    sym (other_number _ _ _ _ a.kind (no_kind a.kind _ c.in-Err.ensures))
