-- The number of a primitive by its kind and eight floats, as the code works it out.
use Rattle.std.specs.Prelude.{ℕ, Bool, cond, ◌&&◌, eqb, Float}
use Rattle.std.specs.Float.Ieee.{neg, le}
use Rattle.scalar.specs.F32.{f0}
use Rattle.vectors.specs.declared.Vec3.{Vec3}
use Rattle.refusals.specs.Ranges.{far}
use Rattle.refusals.specs.Prims.{shape_of, prim_number}

abbrev pub prim_in : ℕ → Vec3 → Vec3 → Float → Float → ℕ
prim_in k a b u v = prim_number k (shape_of k a b u v)

unfoldable pub least_of : ℕ → Float  -- what the second three floats may be at the least
least_of k = cond (eqb k 0) f0 (cond (eqb k 1) f0 (cond (eqb k 4) f0 (neg far)))

-- none of eight floats is above its range, or below it
unfoldable pub none_above : Vec3 → Vec3 → Float → Float → Bool
none_above a b u v =
    ((le a.x far && le a.y far) && (le a.z far && le b.x far))
    && ((le b.y far && le b.z far) && (le u far && le v far))

unfoldable pub none_below : Vec3 → Vec3 → Float → Float → Float → Bool
none_below a b u v least =
    ((le (neg far) a.x && le (neg far) a.y) && (le (neg far) a.z && le least b.x))
    && ((le least b.y && le least b.z) && (le f0 u && le f0 v))
