-- What a row's words stand for: VIEWER.md's records, as words (w) and floats (f, a NaN's bits a NaN) in the same place.
use Rattle.std.specs.Prelude.{ℕ, ◌+◌, ◌*◌, List, get_or, Float}
use Rattle.std.specs.Float.{nan}
use Rattle.vectors.specs.declared.Vec3.{Vec3}
use Rattle.sdf.specs.declared.Shape.{Shape}
use Rattle.refusals.specs.Prims.{shape_of}
use Rattle.plan.specs.declared.Material.{Material}
use Rattle.plan.specs.declared.QuadLight.{QuadLight}
use Rattle.plan.specs.declared.Cutter.{Cutter}
use Rattle.plan.specs.declared.Head.{Head}
use Rattle.plan.specs.Sections.{lights}

abbrev pub word_of : List ℕ → ℕ → ℕ
word_of w i = get_or w i 0

abbrev pub float_of : List Float → ℕ → Float
float_of f i = get_or f i nan

abbrev pub vec_of : List Float → ℕ → Vec3
vec_of f i = record { x = float_of f i; y = float_of f (i + 1); z = float_of f (i + 2) }

abbrev pub prim_of : List ℕ → List Float → ℕ → Shape  -- its kind is word i, its eight floats are the next
prim_of w f i =
    shape_of (word_of w i) (record { x = float_of f (i + 1); y = float_of f (i + 2); z = float_of f (i + 3) })
    (record { x = float_of f (i + 4); y = float_of f (i + 5); z = float_of f (i + 6) })
    (float_of f (i + 7)) (float_of f (i + 8))

unfoldable pub material_at : List Float → ℕ → Material  -- "albedo x y z, roughness, metallic"
material_at f r =
    record { albedo = vec_of f (16 * r + 0); roughness = float_of f (16 * r + 3); metallic = float_of f (16 * r + 4) }

unfoldable pub light_at : List Float → ℕ → QuadLight  -- "corners 0 to 3 (x y z each), emission x y z"
light_at f r =
    record {
      v0 = vec_of f (16 * r + 0);
      v1 = vec_of f (16 * r + 3);
      v2 = vec_of f (16 * r + 6);
      v3 = vec_of f (16 * r + 9);
      emit = vec_of f (16 * r + 12);
    }

unfoldable pub light_in : List Float → ℕ → QuadLight  -- light l: two rows a record
light_in f l = light_at f (lights.first + 2 * l)

unfoldable pub cutter_at : List ℕ → List Float → ℕ → Cutter  -- "a primitive: kind, eight words"
cutter_at w f r = record { kind = word_of w (16 * r); shape = prim_of w f (16 * r) }

-- "a piece is: material, blend, number of cutters, kind, the primitive's eight words, place of the first cutter"
unfoldable pub head_at : List ℕ → List Float → ℕ → Head
head_at w f r =
    record {
      material = word_of w (16 * r);
      blend = float_of f (16 * r + 1);
      cutters = word_of w (16 * r + 2);
      kind = word_of w (16 * r + 3);
      shape = prim_of w f (16 * r + 3);
      place = word_of w (16 * r + 12);
    }

abbrev pub no_vec : Vec3
no_vec = record { x = nan; y = nan; z = nan }
