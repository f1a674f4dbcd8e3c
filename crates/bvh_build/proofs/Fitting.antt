-- Every corner of an object's box, and of a hull of such boxes, is an f32: it is a sum, a difference, a literal, or one
-- of two that are. Assumes nothing.
use Rattle.std.proofs.Common.{ℕ, zero, suc, ◌<◌, T, List, [], ◌∷◌, map, length, arith}
use Rattle.std.specs.Prelude.{Option, Some, None}
use lib.Ieee.{Float, binary32, fits}
use lib.Ieee.Fits.{add-fits, sub-fits, neg-fits}
use lib.Ieee.Bits.{of_bits-fits}
use Rattle.scalar.specs.F32.{f0}
use Rattle.vectors.specs.declared.Vec3.{Vec3}
use Rattle.vectors.specs.Vec.{vsplat, vadd, vsub, vmin, vmax}
use Rattle.sdf.specs.declared.Aabb.{Aabb}
use Rattle.sdf.specs.Boxes.{bounds_of, widened, box_in, box_of}
use Rattle.refusals.specs.Ranges.{greatest}
use Rattle.plan.specs.Plan.{Piece}
use Rattle.float_order.proofs.Extremes.{fmin_either, fmax_either}
use Rattle.bvh_boxes.specs.Boxes.{nowhere, merge, object_box, box_at}
use Rattle.bvh_boxes.specs.Inside.Hulls.{hull_from}
use Rattle.bvh_build.proofs.Stands.{Fit3, FitBox}

-- ---- vectors
splat_fits : (x : Float) → T (fits binary32 x) → Fit3 (vsplat x)
unfolding vsplat
splat_fits x h = record { x = h; y = h; z = h }

module _ (a b : Vec3) where
  vadd_fits : Fit3 (vadd a b)
  unfolding vadd
  vadd_fits = record { x = add-fits binary32 _ _; y = add-fits binary32 _ _; z = add-fits binary32 _ _ }

  vsub_fits : Fit3 (vsub a b)
  unfolding vsub
  vsub_fits = record { x = sub-fits binary32 _ _; y = sub-fits binary32 _ _; z = sub-fits binary32 _ _ }

  abbrev Fit : Float → Type 0
  Fit x = T (fits binary32 x)

  vmin_fits : Fit3 a → Fit3 b → Fit3 (vmin a b)
  unfolding vmin
  vmin_fits h k =
      record {
        x = fmin_either Fit a.x b.x h.x k.x;
        y = fmin_either Fit a.y b.y h.y k.y;
        z = fmin_either Fit a.z b.z h.z k.z;
      }

  vmax_fits : Fit3 a → Fit3 b → Fit3 (vmax a b)
  unfolding vmax
  vmax_fits h k =
      record {
        x = fmax_either Fit a.x b.x h.x k.x;
        y = fmax_either Fit a.y b.y h.y k.y;
        z = fmax_either Fit a.z b.z h.z k.z;
      }

-- ---- an object's box
in_fits : (b : Option Aabb) (e : Float) → FitBox (box_in b e)
unfolding widened
in_fits (Some b) e = record { lo = vsub_fits b.lo (vsplat e); hi = vadd_fits b.hi (vsplat e) }
in_fits None e =
    record { lo = splat_fits f0 (of_bits-fits binary32 0); hi = splat_fits f0 (of_bits-fits binary32 0) }

object_fits : (o : Piece) → FitBox (object_box o)
unfolding object_box box_of
object_fits o = in_fits (bounds_of o.head.shape) o.head.blend

pub boxes_fit : (os : List Piece) (i : ℕ) → i < length os → FitBox (box_at (map object_box os) i)
boxes_fit [] i l = absurd (omega arith)
boxes_fit (o ∷ os) zero l = object_fits o
boxes_fit (o ∷ os) (suc i) l = boxes_fit os i (omega arith)

-- ---- a hull
merge_fits : (a b : Aabb) → FitBox a → FitBox b → FitBox (merge a b)
unfolding merge
merge_fits a b h k =
    record { lo = vmin_fits a.lo b.lo h.lo k.lo; hi = vmax_fits a.hi b.hi h.hi k.hi }

from_fits
    : (a : Aabb) (bs : List Aabb) → FitBox a → ((i : ℕ) → i < length bs → FitBox (box_at bs i))
    → FitBox (hull_from a bs)
unfolding hull_from
from_fits a [] h k = h
from_fits a (b ∷ bs) h k =
    from_fits (merge a b) bs (merge_fits a b h (k 0 (omega arith))) (λ i l. k (suc i) (omega arith))

pub hull_fits
    : (bs : List Aabb) → ((i : ℕ) → i < length bs → FitBox (box_at bs i)) → FitBox (hull_from nowhere bs)
hull_fits bs =
    let top = of_bits-fits binary32 0x7f7f_ffff in
    from_fits nowhere bs (record { lo = splat_fits greatest top; hi = splat_fits _ (neg-fits binary32 greatest top) })
