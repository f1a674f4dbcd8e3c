-- "Kinds count 0 to 6, and words stand, in the source's order": sphere, rounded box, plane, capsule, torus, cylinder
-- and cone.
use Rattle.std.specs.Prelude.{ℕ, ◌≡◌, cond, Result, Ok, Err, eqb}
use Rattle.std.specs.Result.{result_unwrap_or}
use Rattle.refusals.specs.declared.Kind.{Kind}
use Rattle.refusals.specs.declared.Kind.TheVariants.{Sphere, RoundBox, Plane, Capsule, Torus, Cylinder, Cone}
use Rattle.refusals.specs.declared.UnknownKind.{UnknownKind}

unfoldable pub kind_of : ℕ → Result Kind UnknownKind
kind_of k =
    cond (eqb k 0) (Ok Sphere)
    (cond (eqb k 1) (Ok RoundBox)
    (cond (eqb k 2) (Ok Plane)
    (cond (eqb k 3) (Ok Capsule)
    (cond (eqb k 4) (Ok Torus)
    (cond (eqb k 5) (Ok Cylinder)
    (cond (eqb k 6) (Ok Cone)
    (Err (record {}))))))))

abbrev pub Decodes : ℕ → Result Kind UnknownKind → Type 0  -- a word read as a kind
Decodes word r = r ≡ kind_of word

unfoldable pub shape_kind : ℕ → Kind  -- of the shape that a word makes: a cone where it is no kind's
shape_kind k = result_unwrap_or (kind_of k) Cone

abbrev pub kind_word : Kind → ℕ  -- a kind's word
kind_word Sphere = 0
kind_word RoundBox = 1
kind_word Plane = 2
kind_word Capsule = 3
kind_word Torus = 4
kind_word Cylinder = 5
kind_word Cone = 6
