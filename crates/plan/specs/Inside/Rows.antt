-- A primitive by its kind and the place of its eight floats.
use Rattle.std.specs.Prelude.{ℕ, ◌+◌, List, Float}
use Rattle.sdf.specs.declared.Shape.{Shape}
use Rattle.refusals.specs.Prims.{shape_of}
use Rattle.plan.specs.Records.{float_of}

abbrev pub eight_left : ℕ  -- the table has eight floats from any place before this one on
eight_left = 27288

abbrev pub shape_in : ℕ → List Float → ℕ → Shape
shape_in k f i =
    shape_of k
    (record { x = float_of f i; y = float_of f (i + 1); z = float_of f (i + 2) })
    (record { x = float_of f (i + 3); y = float_of f (i + 4); z = float_of f (i + 5) })
    (float_of f (i + 6))
    (float_of f (i + 7))
