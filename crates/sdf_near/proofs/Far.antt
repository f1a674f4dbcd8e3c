-- What reaches a guess is far enough where the guess is: rounding keeps the order, so each formula with the guess in
-- the root's place is no greater than the formula. Assumes nothing.
use mathlib.Core.Path.{◌≡◌, refl, sym, subst}
use mathlib.Core.Bool.{true, false}
use lib.Dec.{T}
use lib.Ieee.{Float, nan, inf, fin, binary32, of_bits, fits, neg, add, sub, div, le}
use lib.Ieee.Fits.{add-fits}
use lib.Ieee.Scale.{finite}
use Rattle.root.specs.Root.{root_of}
use Rattle.scalar.specs.F32.{◌⊕◌, ◌⊖◌, ◌⊗◌, ◌⊘◌, f0}
use Rattle.scalar.specs.Extremes.{fmin}
use Rattle.float_order.specs.Inside.Order.{number, zero_f}
use Rattle.float_order.proofs.Order.{yes_of, le_right, le_refl, le_trans, top_le, finite_number}
use Rattle.float_order.proofs.Extremes.{fmin_right}
use Rattle.float_order.proofs.Rounding.{zero_is, sum_numbers, less_numbers, less_grows, add_mono, add_number'}
use Rattle.float_order.proofs.Rounding.{add_plus, add_plus_number, sub_mono, sub_number, sub_swap}
use Rattle.float_order.proofs.Rounding.{square_plus, square_mono, square_neg, square_up, square_numbers}
use Rattle.float_order.proofs.Holding.{add_down}
use Rattle.float_order.proofs.Roots.{root_fits, rooted_number}
use Rattle.root_tests.specs.Inside.Tests.{most}
use Rattle.root_tests.proofs.Squares.{root_le}
use Rattle.sdf_near.specs.Inside.Near.{OffRing}

-- where x is at least v, and bounded, x less r is at least v less r
grown
    : (v x b r : Float) → T (le v x) → T (finite b) → T (le x b) → T (number (v ⊖ r))
    → T (le (v ⊖ r) (x ⊖ r))
grown v x b r h f k n =
    less_grows binary32 v x r h n
    (λ g. absurd (subst (λ (u : Float). T (finite u)) (top_le b (le_trans (inf false) x b g k)) f))

far : (v x b r t : Float) → T (le v x) → T (finite b) → T (le x b) → le t (v ⊖ r) ≡ true → T (le t (x ⊖ r))
far v x b r t h f k e =
    le_trans t (v ⊖ r) (x ⊖ r) (yes_of e) (grown v x b r h f k (le_right t (v ⊖ r) (yes_of e)))

le_self : (x : Float) → T (finite x) → T (le x x)
le_self x f = le_refl x (finite_number x f)

pub root_far
    : (q w r t : Float) → T (finite (root_of q)) × T (le w (root_of q)) → le t (w ⊖ r) ≡ true
    → T (le t (root_of q ⊖ r))
root_far q w r t h e = far w (root_of q) (root_of q) r t h.1 h.0 (le_self (root_of q) h.0) e

pub box_far
    : (q w n m r t : Float) → T (fits binary32 q) → m ≡ fmin n f0
    → T (finite (root_of q)) × T (le w (root_of q)) → le t (w ⊕ m ⊖ r) ≡ true
    → T (le t (root_of q ⊕ fmin n f0 ⊖ r))
box_far q w n m r t held is h e =
    let v : T (number (w ⊕ m)) = (less_numbers binary32 (w ⊕ m) r (le_right t (w ⊕ m ⊖ r) (yes_of e))).0 in
    let k : T (number m) = (sum_numbers binary32 w m v).1 in
    subst (λ (u : Float). T (le t (root_of q ⊕ u ⊖ r))) is
    (far (w ⊕ m) (root_of q ⊕ m) (root_of q) r t
    (add_mono binary32 w (root_of q) m m h.1 (le_refl m k) v (add_number' binary32 (root_of q) m h.0 k)) h.0
    (add_down binary32 (root_of q) m (root_fits q held) h.0 low) e)
  where
    low : T (le m zero_f)
    low =
        subst (λ (z : Float). T (le z zero_f)) (sym is) (subst (λ (z : Float). T (le (fmin n f0) z)) zero_is
        (fmin_right n f0 (subst (λ (z : Float). T (number z)) (sym zero_is) tt)))

-- ---- the torus
plus_of : (k : Float) → le f0 k ≡ true → T (le zero_f k)
plus_of k e = subst (λ (z : Float). T (le z k)) zero_is (yes_of e)

squares
    : (g major k z : Float) → T (le zero_f k) → T (le k z)
    → z ⊗ z ≡ (root_of g ⊖ major) ⊗ (root_of g ⊖ major) → OffRing g major (k ⊗ k)
squares g major k z p h e = λ n. (
  square_plus binary32 k p,
  subst (λ (u : Float). T (le (k ⊗ k) u)) e (square_mono binary32 k z p h),
)

-- outside the ring: the root of g is at least o
pub ring_out
    : (g o major : Float) → T (finite (root_of g)) × T (le o (root_of g)) → le f0 (o ⊖ major) ≡ true
    → OffRing g major ((o ⊖ major) ⊗ (o ⊖ major))
ring_out g o major h e =
    let x = root_of g in
    let k = o ⊖ major in
    let p : T (le zero_f k) = plus_of k e in
    squares g major k (x ⊖ major) p
    (grown o x x major h.1 h.0 (le_self x h.0) (le_right zero_f k p)) refl

-- within it: the root of g is at most i
pub ring_in
    : (g i major : Float) → T (finite (root_of g)) × T (le (root_of g) i) → le f0 (major ⊖ i) ≡ true
    → OffRing g major ((major ⊖ i) ⊗ (major ⊖ i))
ring_in g i major h e =
    let x = root_of g in
    let k = major ⊖ i in
    let p : T (le zero_f k) = plus_of k e in
    let n : T (number k) = le_right zero_f k p in
    let m : T (number major) = (less_numbers binary32 major i n).0 in
    squares g major k (neg (x ⊖ major)) p
    (le_trans k (major ⊖ x) (neg (x ⊖ major))
    (sub_mono binary32 major major i x (le_refl major m) h.1 n (sub_number binary32 major x m h.0))
    (sub_swap binary32 major x m h.0)) (square_neg binary32 (x ⊖ major))

pub ring_none : (g major : Float) → OffRing g major (f0 ⊘ f0)
unfolding div of_bits
ring_none g major = λ h. absurd h

-- what is at most the greatest f32 may be taken from the infinity
top_less : (r : Float) → T (number r) → le r most ≡ true → T (number (sub binary32 (inf false) r))
unfolding sub add neg
top_less nan n e = absurd n
top_less (inf true) n e = tt
top_less (inf false) n e = absurd (finite-most (top_le most (yes_of e)))
  where
    finite-most : most ≡ inf false → ⊥
    finite-most q = subst (λ (u : Float). T (finite u)) q (unfold of_bits in tt)
top_less (fin s m e') n e = tt

pub torus_far
    : (g y w major minor s t : Float) → OffRing g major s
    → T (finite (root_of (s ⊕ y ⊗ y))) × T (le w (root_of (s ⊕ y ⊗ y))) → le t (w ⊖ minor) ≡ true
    → le minor most ≡ true
    → T (le t (root_of ((root_of g ⊖ major) ⊗ (root_of g ⊖ major) ⊕ y ⊗ y) ⊖ minor))
torus_far g y w major minor s t ring h e l =
    let x = (root_of g ⊖ major) ⊗ (root_of g ⊖ major) in
    let y2 = y ⊗ y in
    let n = sum_numbers binary32 s y2 (rooted_number (s ⊕ y2) h.0) in
    let i = ring n.0 in
    let p : T (le zero_f y2) = square_up binary32 y (square_numbers binary32 y n.1) in
    let a : T (le (s ⊕ y2) (x ⊕ y2)) = add_mono binary32 s x y2 y2 i.1 (le_refl y2 n.1)
    (add_plus_number binary32 s y2 i.0 p)
    (add_plus_number binary32 x y2 (le_trans zero_f s x i.0 i.1) p) in
    let b : T (le (root_of (s ⊕ y2)) (root_of (x ⊕ y2))) = root_le (s ⊕ y2) (x ⊕ y2) (add-fits binary32 s y2)
    (add-fits binary32 x y2) (add_plus binary32 s y2 i.0 p) a in
    let k : T (number (w ⊖ minor)) = le_right t (w ⊖ minor) (yes_of e) in
    le_trans t (w ⊖ minor) (root_of (x ⊕ y2) ⊖ minor) (yes_of e)
    (less_grows binary32 w (root_of (x ⊕ y2)) minor (le_trans w (root_of (s ⊕ y2)) (root_of (x ⊕ y2)) h.1 b) k
    (λ z. top_less minor (less_numbers binary32 w minor k).1 l))
