-- The square of a box distance is an f32 and not below zero, since no gap is; so it is a number, and an f64 holds it.
-- Assumes nothing.
use Rattle.std.proofs.Common.{ℕ, not, ◌&&◌, T, List, subst}
use lib.Ieee.{Float, binary32, binary64, mul, fits, is_nan, le}
use lib.Ieee.Fits.{add-fits}
use Rattle.root.proofs.Whole.{cast_ok}
use Rattle.scalar.specs.F32.{f0}
use Rattle.scalar.specs.Extremes.{fmax}
use Rattle.vectors.specs.declared.Vec3.{Vec3}
use Rattle.vectors.specs.Vec.{vsplat, vmax, vdot}
use Rattle.float_order.specs.Inside.Order.{zero_f}
use Rattle.float_order.proofs.Order.{le_right, number_is}
use Rattle.float_order.proofs.Extremes.{fmax_right}
use Rattle.float_order.proofs.Rounding.{zero_is, add_plus, square_plus}
use Rattle.bvh_search.specs.Inside.Machine.{box_square, square_at}

gap_plus : (x : Float) → T (le zero_f (mul binary32 (fmax x f0) (fmax x f0)))
gap_plus x =
    square_plus binary32 (fmax x f0)
    (subst (λ (z : Float). T (le z (fmax x f0))) zero_is (fmax_right x f0 (rw zero_is tt)))

module _ (nw : List ℕ) (nf : List Float) (p : Vec3) (a : ℕ) where
  pub key_plus : T (le zero_f (square_at nw nf p a))
  unfolding square_at box_square vdot vmax vsplat
  key_plus = add_plus binary32 _ _ (add_plus binary32 _ _ (gap_plus _) (gap_plus _)) (gap_plus _)

  pub key_fits : T (fits binary32 (square_at nw nf p a))
  unfolding square_at box_square vdot
  key_fits = add-fits binary32 _ _

  -- what a cast to f64 asks
  pub key_wide : T (fits binary64 (square_at nw nf p a) && not (is_nan (square_at nw nf p a)))
  key_wide =
      cast_ok (square_at nw nf p a) key_fits (subst T (number_is (square_at nw nf p a)) (le_right zero_f _ key_plus))
