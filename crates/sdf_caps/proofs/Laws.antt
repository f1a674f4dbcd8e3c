-- A lower bound of a cylinder's signed square is one of its distance: the root, the sign 1 and a quotient keep the
-- order. Assumes nothing.
use mathlib.Core.Path.{◌≡◌, refl, sym, ap, subst, ◌∙◌}
use mathlib.Core.Bool.{Bool, true, false, cond}
use Prim.Native.Nat.{zero, suc, ◌*◌}
use native.Mathlib.Omega.{arith}
use lib.Dec.{T}
use lib.IntN.{pos}
use lib.Ieee.{Float, nan, inf, fin, binary32, up, down, unlike, round, of_bits, neg, sum, add, mul, div, fits, lt, le}
use lib.Ieee.Fits.{cond-fits, neg-fits, add-fits, mul-fits}
use lib.Ieee.Scale.{finite}
use Rattle.root.specs.Root.{root_of}
use Rattle.scalar.specs.F32.{◌⊕◌, ◌⊖◌, ◌⊗◌, ◌⊘◌, f0}
use Rattle.scalar.specs.Extremes.{fmin, fmax}
use Rattle.scalar.specs.Signs.{abs_of, signum_of, unit}
use Rattle.sdf.specs.Shapes.{beyond, cylinder_square}
use Rattle.float_order.specs.Inside.Order.{number, zero_f, clear}
use Rattle.float_order.proofs.Order.{yes_of, is_not, finite_number, at_most→le, le_right, le_refl, le_trans, lt_right}
use Rattle.float_order.proofs.Order.{lt_not_le, lt_of_not_le, lt_le, lt_le_trans, lt_trans, le_lt_trans}
use Rattle.float_order.proofs.Extremes.{fmax_left, fmax_right, fmin_either}
use Rattle.float_order.proofs.Holding.{round_own}
use Rattle.float_order.proofs.Bounds.{finite_between}
use Rattle.float_order.proofs.Rounding.{zero_is, add_mono, add_number, sub_mono, sub_number', less_numbers, div_mono}
use Rattle.float_order.proofs.Rounding.{div_number, square_mono, square_plus}
use Rattle.float_order.proofs.Roots.{root_fits}
use Rattle.root_tests.specs.Inside.Tests.{most}
use Rattle.root_tests.proofs.Squares.{root_le, positive_clear}
use Rattle.sdf_caps.specs.Inside.Caps.{outside, signed_square, rooted, cylinder_at}

-- ---- zero
pub zero_sum : zero_f ⊕ zero_f ≡ zero_f
unfolding add sum round
zero_sum = refl

pub zero_square : f0 ⊗ f0 ≡ zero_f
unfolding of_bits mul round
zero_square = refl

zero_root : root_of zero_f ≡ zero_f
unfolding root_of
zero_root = refl

zero_fits : T (fits binary32 zero_f)
unfolding fits
zero_fits = tt

pub above : (x : Float) → lt f0 x ≡ true → T (lt zero_f x)
above x e = subst (λ (z : Float). T (lt z x)) zero_is (yes_of e)

-- only what is not below zero has a root that is finite
finite_root_plus : (x : Float) → T (finite (root_of x)) → T (le zero_f x)
unfolding root_of
finite_root_plus nan h = absurd h
finite_root_plus (inf true) h = absurd h
finite_root_plus (inf false) h = absurd h
finite_root_plus (fin true zero e) h = at_most→le zero_f (fin true zero e) tt tt (omega arith)
finite_root_plus (fin true (suc m) e) h = absurd h
finite_root_plus (fin false m e) h = at_most→le zero_f (fin false m e) tt tt (omega arith)

pub finite_root : (x : Float) → T (finite (root_of x)) → T (finite x)
unfolding root_of
finite_root nan h = absurd h
finite_root (inf true) h = absurd h
finite_root (inf false) h = absurd h
finite_root (fin s m e) h = tt

-- ---- once what a format holds is itself
pub once : (r : Float) → T (fits binary32 r) → unit false ⊗ r ≡ r
unfolding mul
once nan f = refl
once (inf true) f = refl
once (inf false) f = refl
once (fin s m e) f = go s f
  where
    one_up : 1 * up (pos 0) * (m * up e) ≡ m * up e
    one_up = omega arith

    one_down : down (pos 0) * down e ≡ down e
    one_down = omega arith

    held
        : (t : Bool) → T (fits binary32 (fin t m e))
        → round binary32 t (1 * up (pos 0) * (m * up e)) (down (pos 0) * down e) ≡ fin t m e
    held t f = rw (one_up, one_down) (round_own binary32 t m e f)

    go
        : (t : Bool) → T (fits binary32 (fin t m e))
        → round binary32 (unlike false t) (1 * up (pos 0) * (m * up e)) (down (pos 0) * down e) ≡ fin t m e
    go true f = held true f
    go false f = held false f

clear_sign : (d : Float) → T (clear d) → (signum_of d ≡ unit false) × (abs_of d ≡ d)
unfolding signum_of abs_of
clear_sign nan c = absurd c
clear_sign (inf true) c = absurd c
clear_sign (inf false) c = (refl, refl)
clear_sign (fin true m e) c = absurd c
clear_sign (fin false m e) c = (refl, refl)

-- the distance of a square above zero has no sign to take
pub above_square
    : (d : Float) → T (fits binary32 d) → T (lt zero_f d) → signum_of d ⊗ root_of (abs_of d) ≡ root_of d
above_square d f h =
    let c = clear_sign d (positive_clear d h) in
    rw (c.0, c.1) (once (root_of d) (root_fits d f))

-- ---- from a lower bound l of the square d, whose root reaches w, to one of the distance
module _ (l d w : Float) (fl : T (fits binary32 l)) (fd : T (fits binary32 d)) (small : T (finite (root_of l)))
    (reach : T (le w (root_of l))) (up : T (lt zero_f w)) (h : T (le l d)) where
  pub root_reach : T (le w (root_of d))
  root_reach = le_trans w (root_of l) (root_of d) reach (root_le l d fl fd (finite_root_plus l small) h)

  pub square_above : T (lt zero_f d)
  square_above =
      lt_of_not_le zero_f d tt (le_right l d h)
      (λ g. lt_not_le zero_f w up (le_trans w (root_of d) zero_f root_reach
      (subst (λ (z : Float). T (le (root_of d) z)) zero_root
      (root_le d zero_f fd zero_fits (le_trans zero_f l d (finite_root_plus l small) h) g))))

  pub signed : T (le w (signum_of d ⊗ root_of (abs_of d)))
  signed = rw (above_square d fd square_above) root_reach

over_number : (s b : Float) → T (number s) → T (finite b) → T (lt zero_f b) → T (number (s ⊘ b))
over_number nan b n f h = absurd n
over_number (inf s) nan n f h = absurd f
over_number (inf s) (inf t) n f h = absurd f
over_number (inf s) (fin t m e) n f h = unfold div in tt
over_number (fin s m e) b n f h = div_number binary32 (fin s m e) b tt h

pub divided
    : (t w s b : Float) → T (finite b) → T (lt zero_f b) → T (le t (w ⊘ b)) → T (le w s) → T (le t (s ⊘ b))
divided t w s b f h k l =
    le_trans t (w ⊘ b) (s ⊘ b) k
    (div_mono binary32 w s b l h (le_right t (w ⊘ b) k) (over_number s b (le_right w s l) f h))

-- what `far` tells
pub above_finite : (s : Float) → lt f0 s ≡ true → le s most ≡ true → T (finite s)
above_finite s e k =
    finite_between zero_f s most tt (unfold of_bits in tt) (lt_le zero_f s (above s e)) (yes_of k)

pub more_than : (g v : Float) → T (lt f0 g) → lt g v ≡ true → T (lt f0 v)
more_than g v h e = lt_trans f0 g v h (yes_of e)

-- ---- the cylinder's square
outside_plus : (x : Float) → T (le zero_f (outside x))
unfolding beyond
outside_plus x = go (lt f0 x) refl
  where
    go : (b : Bool) → lt f0 x ≡ b → T (le zero_f (cond b (x ⊗ x) f0))
    go true e = square_plus binary32 x (lt_le zero_f x (above x e))
    go false e = rw zero_is (le_refl zero_f tt)

beyond_none : (x s : Float) → (T (lt f0 x) → ⊥) → beyond x s ≡ zero_f
unfolding beyond
beyond_none x s n = let e : lt f0 x ≡ false = is_not n in rw e zero_is

-- where root(q) reaches o, and o is above rb
pub passes
    : (q o rb : Float) → T (finite (root_of q)) → T (le o (root_of q)) → lt f0 (o ⊖ rb) ≡ true
    → T (le ((o ⊖ rb) ⊗ (o ⊖ rb)) (outside (root_of q ⊖ rb)))
unfolding beyond
passes q o rb f h e =
    let p : T (lt zero_f (o ⊖ rb)) = above (o ⊖ rb) e in
    let n : T (number (o ⊖ rb)) = lt_right zero_f (o ⊖ rb) p in
    let r : T (number rb) = (less_numbers binary32 o rb n).1 in
    let g : T (le (o ⊖ rb) (root_of q ⊖ rb)) = sub_mono binary32 o (root_of q) rb rb h (le_refl rb r) n
    (sub_number' binary32 (root_of q) rb f r) in
    let k : lt f0 (root_of q ⊖ rb) ≡ true = is_above (root_of q ⊖ rb) (lt_le_trans zero_f (o ⊖ rb) (root_of q ⊖ rb) p g) in
    rw k (square_mono binary32 (o ⊖ rb) (root_of q ⊖ rb) (lt_le zero_f (o ⊖ rb) p) g)
  where
    is_above : (x : Float) → T (lt zero_f x) → lt f0 x ≡ true
    is_above x h = rw zero_is (go (lt zero_f x) h)
      where
        go : (b : Bool) → T b → b ≡ true
        go true t = refl
        go false t = absurd t

-- and where nothing is known
pub stands : (x : Float) → T (le (f0 ⊗ f0) (outside x))
stands x = rw zero_square (outside_plus x)

-- both terms of a finite sum are finite
pub sum_finite : (x y : Float) → T (finite (x ⊕ y)) → T (finite y)
unfolding add
sum_finite nan y h = absurd h
sum_finite (inf s) nan h = absurd h
sum_finite (inf true) (inf true) h = absurd h
sum_finite (inf true) (inf false) h = absurd h
sum_finite (inf false) (inf true) h = absurd h
sum_finite (inf false) (inf false) h = absurd h
sum_finite (inf s) (fin t n d) h = tt
sum_finite (fin s m e) nan h = absurd h
sum_finite (fin s m e) (inf t) h = absurd h
sum_finite (fin s m e) (fin t n d) h = tt

pub square_fits : (x y b : Float) → T (fits binary32 (cylinder_square x y b))
unfolding cylinder_square
square_fits x y b =
    cond-fits binary32 (lt (fmax x y) f0) (neg (fmin (x ⊗ x) (y ⊗ y ⊗ b))) (outside x ⊕ beyond y (y ⊗ y ⊗ b))
    (neg-fits binary32 (fmin (x ⊗ x) (y ⊗ y ⊗ b))
    (fmin_either (λ (z : Float). T (fits binary32 z)) (x ⊗ x) (y ⊗ y ⊗ b) (mul-fits binary32 x x)
    (mul-fits binary32 (y ⊗ y) b))) (add-fits binary32 (outside x) (beyond y (y ⊗ y ⊗ b)))

-- a bound s of what x adds, with what y adds, bounds the whole: where it is above zero, not both are below
pub square_low
    : (s x y b : Float) → T (le s (outside x)) → T (finite (s ⊕ beyond y (y ⊗ y ⊗ b)))
    → T (lt zero_f (s ⊕ beyond y (y ⊗ y ⊗ b))) → T (le (s ⊕ beyond y (y ⊗ y ⊗ b)) (cylinder_square x y b))
unfolding cylinder_square
square_low s x y b h f p = go (lt (fmax x y) f0) refl
  where
    by : Float
    by = beyond y (y ⊗ y ⊗ b)

    none : lt (fmax x y) f0 ≡ true → ⊥
    none e =
        let k : T (lt (fmax x y) zero_f) = subst (λ (z : Float). T (lt (fmax x y) z)) zero_is (yes_of e) in
        let ox : outside x ≡ zero_f = beyond_none x (x ⊗ x) (λ u. inside x (fmax x y) u k (λ n. fmax_left x y n)) in
        let oy : by ≡ zero_f = beyond_none y (y ⊗ y ⊗ b) (λ u. inside y (fmax x y) u k (λ n. fmax_right x y n)) in
        lt_not_le zero_f (s ⊕ by) p (rw oy (bottom (subst (λ (z : Float). T (le s z)) ox h)
        (subst (λ (z : Float). T (number (s ⊕ z))) oy (finite_number (s ⊕ by) f))))
      where
        inside : (x m : Float) → T (lt f0 x) → T (lt m zero_f) → (T (number x) → T (le x m)) → ⊥
        inside x m u k g =
            let v : T (lt zero_f x) = subst (λ (z : Float). T (lt z x)) zero_is u in
            lt_not_le zero_f x v (lt_le x zero_f (le_lt_trans x m zero_f (g (lt_right zero_f x v)) k))

        bottom : T (le s zero_f) → T (number (s ⊕ zero_f)) → T (le (s ⊕ zero_f) zero_f)
        bottom g n =
            le_trans (s ⊕ zero_f) (zero_f ⊕ zero_f) zero_f
            (add_mono binary32 s zero_f zero_f zero_f g (le_refl zero_f tt) n (rw zero_sum tt))
            (rw zero_sum (le_refl zero_f tt))

    go
        : (c : Bool) → lt (fmax x y) f0 ≡ c
        → T (le (s ⊕ by) (cond c (neg (fmin (x ⊗ x) (y ⊗ y ⊗ b))) (outside x ⊕ by)))
    go true e = absurd (none e)
    go false e =
        let g : T (finite by) = sum_finite s by f in
        add_mono binary32 s (outside x) by by h (le_refl by (finite_number by g)) (finite_number (s ⊕ by) f)
        (add_number binary32 (outside x) by (le_right s (outside x) h) g)

-- ---- what is told with no root, and with one
pub opened : (x : Float) → T (lt f0 x) → T (lt zero_f x)
opened x h = subst (λ (z : Float). T (lt z x)) zero_is h

pub tested
    : (l d w t b : Float) → T (fits binary32 l) → T (fits binary32 d) → T (le l d) → T (lt f0 w)
    → T (finite b) × T (lt f0 b) × T (le t (w ⊘ b)) → T (finite (root_of l)) × T (le w (root_of l))
    → T (le t (rooted d b))
tested l d w t b fl fd h up far reach =
    divided t w (signum_of d ⊗ root_of (abs_of d)) b far.0 (opened b far.1) far.2
    (signed l d w fl fd reach.0 reach.1 (opened w up) h)

pub by_bound
    : (q y b rb t w z by : Float) → by ≡ beyond y (y ⊗ y ⊗ b) → T (le (z ⊗ z) (outside (root_of q ⊖ rb)))
    → T (lt f0 w) → T (finite b) × T (lt f0 b) × T (le t (w ⊘ b))
    → T (finite (root_of (z ⊗ z ⊕ by))) × T (le w (root_of (z ⊗ z ⊕ by))) → T (le t (cylinder_at q y b rb))
by_bound q y b rb t w z by e h up far reach =
    let x = root_of q ⊖ rb in
    let l = z ⊗ z ⊕ beyond y (y ⊗ y ⊗ b) in
    let r : T (finite (root_of l)) × T (le w (root_of l)) = rw e at reach in
    let f : T (finite l) = finite_root l r.0 in
    let fl : T (fits binary32 l) = add-fits binary32 (z ⊗ z) (beyond y (y ⊗ y ⊗ b)) in
    tested l (cylinder_square x y b) w t b fl (square_fits x y b)
    (square_low (z ⊗ z) x y b h f
    (square_above l l w fl fl r.0 r.1 (opened w up) (le_refl l (finite_number l f)))) up far r

pub square_is
    : (d q y b rb r by : Float) → d ≡ signed_square (r ⊖ rb) y (y ⊗ y ⊗ b) by → r ≡ root_of q
    → by ≡ beyond y (y ⊗ y ⊗ b) → d ≡ cylinder_square (root_of q ⊖ rb) y b
unfolding cylinder_square
square_is d q y b rb r by h er eb =
    h ∙ ap (λ (z : Float). signed_square (z ⊖ rb) y (y ⊗ y ⊗ b) by) er
    ∙ ap (λ (z : Float). signed_square (root_of q ⊖ rb) y (y ⊗ y ⊗ b) z) eb

pub by_square
    : (d q y b rb t w : Float) → d ≡ cylinder_square (root_of q ⊖ rb) y b → T (lt f0 w)
    → T (finite b) × T (lt f0 b) × T (le t (w ⊘ b)) → T (finite (root_of d)) × T (le w (root_of d))
    → T (le t (cylinder_at q y b rb))
by_square d q y b rb t w e up far reach =
    let s = cylinder_square (root_of q ⊖ rb) y b in
    let f = square_fits (root_of q ⊖ rb) y b in
    let r : T (finite (root_of s)) × T (le w (root_of s)) = rw e at reach in
    tested s s w t b f f (le_refl s (finite_number s (finite_root s r.0))) up far r

-- and the distance itself, of a square above zero
pub by_root
    : (d q y b rb r : Float) → d ≡ cylinder_square (root_of q ⊖ rb) y b → lt f0 d ≡ true → r ≡ root_of d
    → r ⊘ b ≡ cylinder_at q y b rb
by_root d q y b rb r e h er =
    let s = cylinder_square (root_of q ⊖ rb) y b in
    let p : T (lt zero_f s) = subst (λ (z : Float). T (lt zero_f z)) e (above d h) in
    ap (λ (z : Float). z ⊘ b) (er ∙ ap root_of e ∙ sym (above_square s (square_fits (root_of q ⊖ rb) y b) p))
