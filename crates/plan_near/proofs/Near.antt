-- What a distance worked out as far as it matters tells: whether it lies below the bound, and what it is where it does.
-- So a piece whose primitive is no nearer than the best hit is passed over, whatever cuts it, since a cutter makes no
-- distance less; and a cutter that is far enough cuts nothing. By the order of floats. Assumes nothing.
use mathlib.Core.Path.{◌≡◌, refl, sym, ap, subst, ◌∙◌}
use mathlib.Core.Bool.{Bool, true, false, cond}
use mathlib.Core.Logic.{inl, inr}
use mathlib.Core.List.{List, [], ◌∷◌}
use Prim.Native.Nat.{ℕ, zero, suc, ◌+◌, ◌-◌, ◌≤◌}
use native.Mathlib.Omega.{arith}
use lib.Dec.{T}
use lib.Ieee.{Float, neg, lt, le}
use Rattle.scalar.specs.Extremes.{fmax}
use Rattle.vectors.specs.declared.Vec3.{Vec3}
use Rattle.float_order.specs.Inside.Order.{number}
use Rattle.float_order.proofs.Order.{yes_of, is_yes, is_not, not_of, le_left, le_right, le_refl, le_trans, lt_left}
use Rattle.float_order.proofs.Order.{lt_right, lt_irrefl, lt_not_le, lt_of_not_le, lt_le_trans, neg_number, neg_le}
use Rattle.float_order.proofs.Bounds.{neg_neg}
use Rattle.float_order.proofs.Extremes.{fmax_left}
use Rattle.sdf.specs.Shapes.{dist_of}
use Rattle.sdf_near.specs.Inside.Near.{Near}
use Rattle.plan.specs.declared.DistHit.{DistHit}
use Rattle.plan.specs.Records.{cutter_at}
use Rattle.plan.specs.Plan.{Cuts, Piece, cuts_by}
use Rattle.plan.specs.Nearest.{cut_by, carve, piece_dist, hit_of, closer}
use Rattle.plan.proofs.Lists.{carve_more}

-- ---- the bound t, the distance d, and what was worked out
module _ (t d r : Float) where
  pub near_far : Near t d r → T (le t r) → T (le t d)
  near_far (inl e) h = subst (λ (z : Float). T (le t z)) e h
  near_far (inr q) h = q.1

  pub near_is : Near t d r → le t r ≡ false → r ≡ d
  near_is (inl e) k = e
  near_is (inr q) k =
      absurd (not_of k (subst (λ (z : Float). T (le t z)) (sym q.0) (le_refl t (le_left t d q.1))))

  pub near_below : Near t d r → lt r t ≡ true → r ≡ d
  near_below (inl e) k = e
  near_below (inr q) k = absurd (lt_irrefl t (subst (λ (z : Float). T (lt z t)) q.0 (yes_of k)))

  pub near_over : Near t d r → lt r t ≡ false → lt d t ≡ false
  near_over (inl e) k = subst (λ (z : Float). lt z t ≡ false) e k
  near_over (inr q) k = is_not (λ l. lt_not_le d t l q.1)

-- ---- cutters
-- a cutter farther than -left leaves `left`
kept : (left x : Float) → T (lt (neg left) x) → fmax left (neg x) ≡ left
unfolding fmax
kept left x h =
    let n : T (number left) = subst (λ (z : Float). T (number z)) (neg_neg left) (neg_number (neg left)
    (lt_left (neg left) x h)) in
    let e : lt (neg x) left ≡ true = is_yes (lt_of_not_le (neg x) left (neg_number x (lt_right (neg left) x h)) n
    (λ l. lt_not_le (neg left) x h (subst (λ (z : Float). T (le z (neg left))) (neg_neg x) (neg_le left (neg x) l)))) in
    rw e

pub cut_near
    : (left t d r : Float) → Near t d r → (T (number t) → T (lt (neg left) t)) → fmax left (neg r) ≡ fmax left (neg d)
cut_near left t d r (inl e) g = ap (λ (z : Float). fmax left (neg z)) e
cut_near left t d r (inr q) g =
    let h = g (le_left t d q.1) in
    ap (λ (z : Float). fmax left (neg z)) q.0 ∙ kept left t h ∙ sym
    (kept left d (lt_le_trans (neg left) t d h q.1))

cut_least : (left x t : Float) → T (le t left) → T (le t (fmax left x))
cut_least left x t h = le_trans t left (fmax left x) h (fmax_left left x (le_right t left h))

carve_least : (cs : Cuts) (p : Vec3) (t d : Float) → T (le t d) → T (le t (carve cs p d))
unfolding carve cut_by
carve_least [] p t d h = h
carve_least (c ∷ cs) p t d h =
    carve_least cs p t (fmax d (neg (dist_of c.shape p))) (cut_least d (neg (dist_of c.shape p)) t h)

-- more cutters carve no less
module _ (w : List ℕ) (f : List Float) (r : ℕ) (p : Vec3) (t d : Float) where
  more : (j k : ℕ) → T (le t (carve (cuts_by w f r j) p d)) → T (le t (carve (cuts_by w f r (j + k)) p d))
  unfolding cut_by
  more j zero h = subst (λ (n : ℕ). T (le t (carve (cuts_by w f r n) p d))) (none j) h
    where
      none : (j : ℕ) → j ≡ j + 0
      none j = omega arith
  more j (suc k) h =
      subst (λ (n : ℕ). T (le t (carve (cuts_by w f r n) p d))) (one j k)
      (subst (λ (z : Float). T (le t z)) (sym (carve_more w f r (j + k) p d))
      (cut_least (carve (cuts_by w f r (j + k)) p d) (neg (dist_of (cutter_at w f (r + (j + k))).shape p)) t
      (more j k h)))
    where
      one : (j k : ℕ) → j + k + 1 ≡ j + suc k
      one j k = omega arith

  pub carve_stops : (j n : ℕ) → j ≤ n → T (le t (carve (cuts_by w f r j) p d)) → T (le t (carve (cuts_by w f r n) p d))
  carve_stops j n h l = subst (λ (n : ℕ). T (le t (carve (cuts_by w f r n) p d))) (whole j n h) (more j (n - j) l)
    where
      whole : (j n : ℕ) → j ≤ n → j + (n - j) ≡ n
      whole j n h = omega arith

-- ---- pieces
abbrev hit_at : ℕ → Float → DistHit
hit_at m z = record { d = z; mat = m }

pub no_closer : (best hit : DistHit) → lt hit.d best.d ≡ false → closer best hit ≡ best
unfolding closer
no_closer best hit e = rw e

pub is_closer : (best hit : DistHit) → lt hit.d best.d ≡ true → closer best hit ≡ hit
unfolding closer
is_closer best hit e = rw e

pub passed : (o : Piece) (p : Vec3) (t : Float) → T (le t (dist_of o.head.shape p)) → T (le t (piece_dist o p))
unfolding piece_dist
passed o p t h = carve_least o.cuts p t (dist_of o.head.shape p) h

-- the nearer of the best hit and a piece, by its distance as far as it matters
pub choice
    : (o : Piece) (p : Vec3) (best : DistHit) (d : Float) → Near best.d (piece_dist o p) d
    → cond (lt d best.d) (record { d = d; mat = o.head.material }) best ≡ closer best (hit_of o p)
unfolding hit_of
choice o p best d n = at (lt d best.d) refl
  where
    at : (b : Bool) → lt d best.d ≡ b
        → cond b (record { d = d; mat = o.head.material }) best ≡ closer best (hit_of o p)
    at true e =
        let s : d ≡ piece_dist o p = near_below best.d (piece_dist o p) d n e in
        ap (λ (z : Float). hit_at o.head.material z) s
        ∙ sym (is_closer best (hit_at o.head.material (piece_dist o p))
        (subst (λ (z : Float). lt z best.d ≡ true) s e))
    at false e =
        sym (no_closer best (hit_at o.head.material (piece_dist o p)) (near_over best.d (piece_dist o p) d n e))
