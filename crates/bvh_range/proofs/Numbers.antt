-- Corners that are numbers stay numbers, and for them one test finds the lesser and the greater. By the cases of a
-- float and of a test. Assumes nothing.
use mathlib.Core.Path.{◌≡◌, refl, ◌∙◌}
use mathlib.Core.Bool.{Bool, true, false, not, cond}
use lib.Dec.{T}
use lib.Ieee.{Float, nan, inf, fin, lt, eq, le, neg, of_bits}
use Rattle.scalar.specs.Extremes.{fmin, fmax}
use Rattle.vectors.specs.Vec.{vsplat, vmin, vmax}
use Rattle.vectors.specs.declared.Vec3.{Vec3}
use Rattle.sdf.specs.declared.Aabb.{Aabb}
use Rattle.float_order.specs.Inside.Order.{number}
use Rattle.float_order.proofs.Order.{is_yes, number_eq, lt_is_not_le}
use Rattle.float_order.proofs.Extremes.{fmin_either, fmax_either}
use Rattle.bvh_boxes.specs.Boxes.{nowhere, merge}
use Rattle.bvh_range.specs.Inside.Numbers.{lesser_of, greater_of, Three, Numbers}

by_test : (c : Bool) (a b : Float) → cond c b a ≡ cond (not c) a (cond true b a)
by_test true a b = refl
by_test false a b = refl

-- ---- the lesser
lesser_nan : (a : Float) → T (number a) → lesser_of a nan ≡ fmin a nan
unfolding fmin lt eq le
lesser_nan nan h = absurd h
lesser_nan (inf s) h = refl
lesser_nan (fin s m e) h = refl

lesser_both : (a b : Float) → T (number a) → T (number b) → lesser_of a b ≡ fmin a b
unfolding fmin
lesser_both a b p q =
    let e : eq b b ≡ true = number_eq b ∙ is_yes q in
    rw (lt_is_not_le a b p q, e) (by_test (le b a) a b)

pub lesser_law : (a b : Float) → T (number a) → lesser_of a b ≡ fmin a b
lesser_law a nan h = lesser_nan a h
lesser_law a (inf t) h = lesser_both a (inf t) h tt
lesser_law a (fin t n d) h = lesser_both a (fin t n d) h tt

min_nan : (a : Float) → T (number a) → T (number (fmin a nan))
unfolding fmin lt eq
min_nan nan h = absurd h
min_nan (inf s) h = tt
min_nan (fin s m e) h = tt

min_number : (a b : Float) → T (number a) → T (number (fmin a b))
min_number a nan h = min_nan a h
min_number a (inf t) h = fmin_either (λ (r : Float). T (number r)) a (inf t) h tt
min_number a (fin t n d) h = fmin_either (λ (r : Float). T (number r)) a (fin t n d) h tt

-- ---- the greater
greater_nan : (a : Float) → T (number a) → greater_of a nan ≡ fmax a nan
unfolding fmax lt eq le
greater_nan nan h = absurd h
greater_nan (inf s) h = refl
greater_nan (fin s m e) h = refl

greater_both : (a b : Float) → T (number a) → T (number b) → greater_of a b ≡ fmax a b
unfolding fmax
greater_both a b p q =
    let e : eq b b ≡ true = number_eq b ∙ is_yes q in
    rw (lt_is_not_le b a q p, e) (by_test (le a b) a b)

pub greater_law : (a b : Float) → T (number a) → greater_of a b ≡ fmax a b
greater_law a nan h = greater_nan a h
greater_law a (inf t) h = greater_both a (inf t) h tt
greater_law a (fin t n d) h = greater_both a (fin t n d) h tt

max_nan : (a : Float) → T (number a) → T (number (fmax a nan))
unfolding fmax lt eq
max_nan nan h = absurd h
max_nan (inf s) h = tt
max_nan (fin s m e) h = tt

max_number : (a b : Float) → T (number a) → T (number (fmax a b))
max_number a nan h = max_nan a h
max_number a (inf t) h = fmax_either (λ (r : Float). T (number r)) a (inf t) h tt
max_number a (fin t n d) h = fmax_either (λ (r : Float). T (number r)) a (fin t n d) h tt

-- ---- boxes
pub nowhere_numbers : Numbers nowhere
unfolding vsplat of_bits neg
nowhere_numbers =
    record {
      low = record { at_x = tt; at_y = tt; at_z = tt };
      high = record { at_x = tt; at_y = tt; at_z = tt };
    }

pub merge_numbers : (a b : Aabb) → Numbers a → Numbers (merge a b)
unfolding merge vmin vmax
merge_numbers a b h =
    record {
      low =
          record {
            at_x = min_number _ b.lo.x h.low.at_x;
            at_y = min_number _ b.lo.y h.low.at_y;
            at_z = min_number _ b.lo.z h.low.at_z;
          };
      high =
          record {
            at_x = max_number _ b.hi.x h.high.at_x;
            at_y = max_number _ b.hi.y h.high.at_y;
            at_z = max_number _ b.hi.z h.high.at_z;
          };
    }

-- ---- floats found by one test each
pub min_by
    : (a b : Vec3) (x y z : Float) → x ≡ lesser_of a.x b.x → y ≡ lesser_of a.y b.y
    → z ≡ lesser_of a.z b.z → Three a → record { x = x; y = y; z = z } ≡ vmin a b
unfolding vmin
min_by a b x y z p q r h =
    rw (
      p ∙ lesser_law a.x b.x h.at_x,
      q ∙ lesser_law a.y b.y h.at_y,
      r ∙ lesser_law a.z b.z h.at_z,
    )

pub max_by
    : (a b : Vec3) (x y z : Float) → x ≡ greater_of a.x b.x → y ≡ greater_of a.y b.y
    → z ≡ greater_of a.z b.z → Three a → record { x = x; y = y; z = z } ≡ vmax a b
unfolding vmax
max_by a b x y z p q r h =
    rw (
      p ∙ greater_law a.x b.x h.at_x,
      q ∙ greater_law a.y b.y h.at_y,
      r ∙ greater_law a.z b.z h.at_z,
    )

pub merge_by
    : (a b : Aabb) (x y z x' y' z' : Float)
    → x ≡ lesser_of a.lo.x b.lo.x → y ≡ lesser_of a.lo.y b.lo.y → z ≡ lesser_of a.lo.z b.lo.z
    → x' ≡ greater_of a.hi.x b.hi.x → y' ≡ greater_of a.hi.y b.hi.y
    → z' ≡ greater_of a.hi.z b.hi.z → Numbers a
    → record { lo = record { x = x; y = y; z = z }; hi = record { x = x'; y = y'; z = z' } } ≡ merge a b
unfolding merge
merge_by a b x y z x' y' z' p q r p' q' r' h =
    rw (min_by a.lo b.lo x y z p q r h.low, max_by a.hi b.hi x' y' z' p' q' r' h.high)
