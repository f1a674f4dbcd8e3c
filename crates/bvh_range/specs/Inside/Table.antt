-- A table of boxes in floats, eight to a box: lo x y z and a spare, hi x y z and a spare.
use Rattle.std.specs.Prelude.{ℕ, ◌+◌, ◌*◌, ◌/◌, cond, List, length, set, ltb, Float}
use Rattle.scalar.specs.F32.{f0}
use Rattle.vectors.specs.declared.Vec3.{Vec3}
use Rattle.sdf.specs.declared.Aabb.{Aabb}
use Rattle.words.specs.Lists.{list_from}
use Rattle.plan.specs.Records.{float_of}
use Rattle.bvh_range.specs.declared.Four.{Four}
use Rattle.bvh_range.specs.declared.Row.{Row}

abbrev pub table_box : List Float → ℕ → Aabb
table_box f k =
    record {
      lo = record { x = float_of f (8 * k); y = float_of f (8 * k + 1); z = float_of f (8 * k + 2) };
      hi = record { x = float_of f (8 * k + 4); y = float_of f (8 * k + 5); z = float_of f (8 * k + 6) };
    }

unfoldable pub table_boxes : List Float → List Aabb
table_boxes f = list_from (table_box f) 0 (length f / 8)

abbrev pub corner : Four → Vec3  -- a row without its spares
corner a = record { x = a.x; y = a.y; z = a.z }

abbrev pub box_of_row : Row → Aabb
box_of_row r = record { lo = corner r.lo; hi = corner r.hi }

-- the table with a row put as box k, where it has such a place
unfoldable pub with_row : List Float → ℕ → Row → List Float
with_row f k r =
    cond (ltb k (length f / 8))
    (set (set (set (set (set (set (set (set f (8 * k) r.lo.x) (8 * k + 1) r.lo.y) (8 * k + 2) r.lo.z)
    (8 * k + 3) r.lo.w) (8 * k + 4) r.hi.x) (8 * k + 5) r.hi.y) (8 * k + 6) r.hi.z) (8 * k + 7)
    r.hi.w)
    f

abbrev pub row_for : Aabb → Row
row_for b =
    record {
      lo = record { x = b.lo.x; y = b.lo.y; z = b.lo.z; w = f0 };
      hi = record { x = b.hi.x; y = b.hi.y; z = b.hi.z; w = f0 };
    }

unfoldable pub put_box : List Float → ℕ → Aabb → List Float
put_box f k b = with_row f k (row_for b)  -- the table with box k put in place, where it has such a place
