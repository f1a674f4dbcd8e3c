-- What a record is where an entry takes it: the statement that the tests of records are held to.
use Rattle.std.specs.Prelude.{ℕ, ◌≤◌, ◌<◌, ◌≡◌, Bool, false, T, eqb}
use Rattle.vectors.specs.Vec.{vsub}
use Rattle.sdf.specs.declared.Shape.{Shape}
use Rattle.refusals.specs.Ranges.{far, coordinates, within_up_to, radius}
use Rattle.refusals.specs.Prims.{shape_ok, flat}
use Rattle.plan.specs.declared.QuadLight.{QuadLight}
use Rattle.plan.specs.declared.Cutter.{Cutter}
use Rattle.plan.specs.declared.Head.{Head}
use Rattle.record_test.specs.Numbers.{dark}

pub record PrimOk (kind : ℕ) (s : Shape) : Type 0 where  -- a primitive that an entry takes
  pub known : kind ≤ 6
  pub ranges : T (shape_ok s)
  pub extent : flat s ≡ false

abbrev pub CutterOk : Cutter → Type 0
CutterOk c = PrimOk c.kind c.shape

-- a piece's own words, in the list of planes or in that of objects
pub record HeadOk (planes : Bool) (materials : ℕ) (h : Head) : Type 0 where
  pub prim : PrimOk h.kind h.shape
  pub blend : T (radius h.blend)
  pub material : h.material < materials
  pub list : eqb h.kind 2 ≡ planes

pub record LightOk (l : QuadLight) : Type 0 where  -- a light that an entry takes
  pub v0 : T (coordinates l.v0)
  pub v1 : T (coordinates l.v1)
  pub v2 : T (coordinates l.v2)
  pub v3 : T (coordinates l.v3)
  pub emit : T (within_up_to l.emit far)
  pub extent : dark (vsub l.v1 l.v0) (vsub l.v3 l.v0) ≡ false
