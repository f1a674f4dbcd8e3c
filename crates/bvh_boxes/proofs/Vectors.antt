-- Vectors by component: a test of a whole vector is three tests, and `vmin` and `vmax` are the greatest below both and
-- the least above both. By the laws of each component. Assumes nothing.
use mathlib.Core.Path.{◌≡◌}
use mathlib.Core.Bool.{Bool, ◌&&◌}
use lib.Dec.{T}
use lib.Ieee.{Float, neg, lt, le}
use lib.Ieee.Fits.{and_l, and_r, and_i}
use Rattle.scalar.specs.Extremes.{fmin, fmax}
use Rattle.scalar.specs.Ranges.{between, magnitude}
use Rattle.vectors.specs.declared.Vec3.{Vec3}
use Rattle.vectors.specs.Vec.{vmin, vmax}
use Rattle.refusals.specs.Ranges.{greatest, within}
use Rattle.float_order.specs.Inside.Order.{number}
use Rattle.float_order.proofs.Order.{is_yes, is_not, number_eq, le_right, le_refl, le_trans, lt_not_le}
use Rattle.float_order.proofs.Extremes.{fmin_either, fmin_left, fmin_right, fmin_greatest, fmax_either, fmax_left}
use Rattle.float_order.proofs.Extremes.{fmax_right, fmax_least}
use Rattle.bvh_boxes.specs.Boxes.{all_at_most}

-- ---- three tests
pub record Three (p q r : Bool) : Type 0 where
  pub x : T p
  pub y : T q
  pub z : T r

pub three : (p q r : Bool) → T (p && (q && r)) → Three p q r
three p q r h =
    record { x = and_l p (q && r) h; y = and_l q r (and_r p (q && r) h); z = and_r q r (and_r p (q && r) h) }

pub of_three : (p q r : Bool) → Three p q r → T (p && (q && r))
of_three p q r h = and_i p (q && r) h.x (and_i q r h.y h.z)

-- ---- each component of a is at most that of b; each is a number; each is finite
abbrev pub Below : Vec3 → Vec3 → Type 0
Below a b = Three (le a.x b.x) (le a.y b.y) (le a.z b.z)

abbrev pub Numbers : Vec3 → Type 0
Numbers a = Three (number a.x) (number a.y) (number a.z)

abbrev pub Finite : Vec3 → Type 0
Finite a = Three (magnitude a.x greatest) (magnitude a.y greatest) (magnitude a.z greatest)

pub below_of : (a b : Vec3) → T (all_at_most a b) → Below a b
unfolding all_at_most
below_of a b = three _ _ _

pub of_below : (a b : Vec3) → Below a b → T (all_at_most a b)
unfolding all_at_most
of_below a b = of_three _ _ _

pub finite_of : (a : Vec3) → T (within a greatest) → Finite a
unfolding within
finite_of a = three _ _ _

pub of_finite : (a : Vec3) → Finite a → T (within a greatest)
unfolding within
of_finite a = of_three _ _ _

-- ---- a finite number, between f32::MIN and f32::MAX
pub at_least : (x : Float) → T (magnitude x greatest) → T (le (neg greatest) x)
unfolding magnitude between
at_least x h = and_l (le (neg greatest) x) (le x greatest) h

pub at_most : (x : Float) → T (magnitude x greatest) → T (le x greatest)
unfolding magnitude between
at_most x h = and_r (le (neg greatest) x) (le x greatest) h

pub bounded : (x : Float) → T (le (neg greatest) x) → T (le x greatest) → T (magnitude x greatest)
unfolding magnitude between
bounded x h k = and_i (le (neg greatest) x) (le x greatest) h k

finite_is_number : (x : Float) → T (magnitude x greatest) → T (number x)
finite_is_number x h = le_right (neg greatest) x (at_least x h)

pub finite_numbers : (a : Vec3) → Finite a → Numbers a
finite_numbers a h =
    record
    { x = finite_is_number a.x h.x; y = finite_is_number a.y h.y; z = finite_is_number a.z h.z }

-- f32::MAX is the lesser of no other, and f32::MIN the greater
pub fmin_top : (x : Float) → T (magnitude x greatest) → fmin greatest x ≡ x
unfolding fmin
fmin_top x h =
    rw (
      is_not {b = lt greatest x} (λ l. lt_not_le greatest x l (at_most x h)),
      number_eq x,
      is_yes {b = number x} (finite_is_number x h),
    )

pub fmax_bottom : (x : Float) → T (magnitude x greatest) → fmax (neg greatest) x ≡ x
unfolding fmax
fmax_bottom x h =
    rw (
      is_not {b = lt x (neg greatest)} (λ l. lt_not_le x (neg greatest) l (at_least x h)),
      number_eq x,
      is_yes {b = number x} (finite_is_number x h),
    )

-- ---- the order
pub below_refl : (a : Vec3) → Numbers a → Below a a
below_refl a n = record { x = le_refl a.x n.x; y = le_refl a.y n.y; z = le_refl a.z n.z }

pub below_trans : (a b c : Vec3) → Below a b → Below b c → Below a c
below_trans a b c h k =
    record {
      x = le_trans a.x b.x c.x h.x k.x;
      y = le_trans a.y b.y c.y h.y k.y;
      z = le_trans a.z b.z c.z h.z k.z;
    }

-- ---- the lesser and the greater
module _ (a b : Vec3) where
  pub vmin_left : Numbers a → Below (vmin a b) a
  unfolding vmin
  vmin_left n =
      record
      { x = fmin_left a.x b.x n.x; y = fmin_left a.y b.y n.y; z = fmin_left a.z b.z n.z }

  pub vmin_right : Numbers b → Below (vmin a b) b
  unfolding vmin
  vmin_right n =
      record
      { x = fmin_right a.x b.x n.x; y = fmin_right a.y b.y n.y; z = fmin_right a.z b.z n.z }

  pub vmin_greatest : (c : Vec3) → Below c a → Below c b → Below c (vmin a b)
  unfolding vmin
  vmin_greatest c h k =
      record {
        x = fmin_greatest c.x a.x b.x h.x k.x;
        y = fmin_greatest c.y a.y b.y h.y k.y;
        z = fmin_greatest c.z a.z b.z h.z k.z;
      }

  pub vmax_left : Numbers a → Below a (vmax a b)
  unfolding vmax
  vmax_left n =
      record
      { x = fmax_left a.x b.x n.x; y = fmax_left a.y b.y n.y; z = fmax_left a.z b.z n.z }

  pub vmax_right : Numbers b → Below b (vmax a b)
  unfolding vmax
  vmax_right n =
      record
      { x = fmax_right a.x b.x n.x; y = fmax_right a.y b.y n.y; z = fmax_right a.z b.z n.z }

  pub vmax_least : (c : Vec3) → Below a c → Below b c → Below (vmax a b) c
  unfolding vmax
  vmax_least c h k =
      record {
        x = fmax_least a.x b.x c.x h.x k.x;
        y = fmax_least a.y b.y c.y h.y k.y;
        z = fmax_least a.z b.z c.z h.z k.z;
      }

  -- each component is one of two
  abbrev Small : Float → Type 0
  Small r = T (magnitude r greatest)

  pub vmin_finite : Finite a → Finite b → Finite (vmin a b)
  unfolding vmin
  vmin_finite h k =
      record {
        x = fmin_either Small a.x b.x h.x k.x;
        y = fmin_either Small a.y b.y h.y k.y;
        z = fmin_either Small a.z b.z h.z k.z;
      }

  pub vmax_finite : Finite a → Finite b → Finite (vmax a b)
  unfolding vmax
  vmax_finite h k =
      record {
        x = fmax_either Small a.x b.x h.x k.x;
        y = fmax_either Small a.y b.y h.y k.y;
        z = fmax_either Small a.z b.z h.z k.z;
      }
