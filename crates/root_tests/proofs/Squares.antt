-- Tests of roots with no root taken: of a root against a bound by the bound's limit, of two roots by how far apart
-- their squares are, of a root against a guess by the guess' square. By the laws of the root. Assumes nothing.
use mathlib.Core.Path.{◌≡◌, refl, sym, subst}
use mathlib.Core.Bool.{Bool, true, false, cond}
use mathlib.Core.Logic.{◌⊎◌, inl, inr, ⊎_elim}
use Prim.Native.Nat.{ℕ, zero, suc, ◌*◌, ◌≤◌, ◌<◌}
use native.Mathlib.Nat.{mul-pos, not-le_of_lt}
use native.Mathlib.Nat as nat
use native.Mathlib.Omega.{arith}
use lib.Dec.{T}
use lib.Ieee.{Float, nan, inf, fin, binary32, binary64, of_bits, to_bits, up, round, add}
use lib.Ieee.{mul, fits, lt, le}
use lib.Ieee.Exact.{HasValue}
use lib.Ieee.Fits.{up_pos}
use lib.Ieee.Scale.{finite}
use Rattle.root.specs.Root.{units, plain, root_of}
use Rattle.root.specs.Inside.Bar.{bar, bar_of, apart_by}
use Rattle.root.proofs.Laws.{root_plain}
use Rattle.root.proofs.Order.{le→units, units→le}
use Rattle.root.proofs.BarLaw.{bar_law, bar_value}
use Rattle.root.proofs.Apart.{apart_law}
use Rattle.root.proofs.Reach.{reach_law, stay_law}
use Rattle.scalar.specs.F32.{f0}
use Rattle.float_order.specs.Inside.Order.{number, zero_f, clear}
use Rattle.float_order.proofs.Order.{yes_of, is_yes, is_not, not_of, same_test, at_most→le, bottom_le, le_left}
use Rattle.float_order.proofs.Order.{le_right, le_trans, lt_not_le, lt_of_not_le, lt_le, lt_le_trans, le_lt_trans}
use Rattle.float_order.proofs.Order.{lt_right, le_top, top_le}
use Rattle.float_order.proofs.Bounds.{finite_between}
use Rattle.float_order.proofs.Rounding.{zero_is, no_debit, square_up, square_numbers}
use Rattle.float_order.proofs.Roots.{plain_of, plain_number, root_top, root_mono}
use Rattle.root_tests.specs.Inside.Tests.{most, usual, far_off, left_first, limit_of}

-- ---- what is not below zero: the sign clear, or -0, which is its own root
zero_root : root_of zero_f ≡ zero_f
unfolding root_of
zero_root = refl

zero_fits : T (fits binary32 zero_f)
unfolding fits
zero_fits = tt

sort : (x : Float) → T (le zero_f x) → T (clear x) ⊎ ((root_of x ≡ x) × T (le x zero_f))
unfolding root_of
sort nan h = absurd (le_right zero_f nan h)
sort (inf true) h = absurd (unfold le in h)
sort (inf false) h = inl tt
sort (fin false m e) h = inl tt
sort (fin true zero e) h = inr (refl, at_most→le (fin true zero e) zero_f tt tt (omega arith))
sort (fin true (suc m) e) h = absurd (above m (up e) (up_pos e) (no_debit (fin true (suc m) e) tt h))
  where
    above : (m u : ℕ) → 0 < u → suc m * u ≡ 0 → ⊥
    above m u p q = let k : 0 < suc m * u = mul-pos (omega arith) p in omega arith

pub root_plus : (x : Float) → T (fits binary32 x) → T (le zero_f x) → T (le zero_f (root_of x))
root_plus x f h =
    ⊎_elim
    (λ c. subst (λ (z : Float). T (le z (root_of x))) zero_root (root_mono zero_f x zero_fits f tt c h))
    (λ q. rw q.0 h)
    (sort x h)

-- the root grows on all that is not below zero
pub root_le
    : (x y : Float) → T (fits binary32 x) → T (fits binary32 y) → T (le zero_f x) → T (le x y)
    → T (le (root_of x) (root_of y))
root_le x y f g h k =
    let j : T (le zero_f y) = le_trans zero_f x y h k in
    ⊎_elim
    (λ c. ⊎_elim
    (λ d. root_mono x y f g c d k)
    (λ q.
    let z : T (le (root_of x) zero_f) = subst (λ (z : Float). T (le (root_of x) z)) zero_root
    (root_mono x zero_f f zero_fits c tt (le_trans x y zero_f k q.1)) in
    rw q.0 (le_trans (root_of x) zero_f y z j))
    (sort y j))
    (λ q. rw q.0 (le_trans x zero_f (root_of y) q.1 (root_plus y g j)))
    (sort x h)

pub positive_clear : (x : Float) → T (lt zero_f x) → T (clear x)
positive_clear nan h = absurd (unfold lt in h)
positive_clear (inf true) h = absurd (lt_not_le zero_f (inf true) h (bottom_le zero_f tt))
positive_clear (inf false) h = tt
positive_clear (fin false m e) h = tt
positive_clear (fin true m e) h =
    absurd (lt_not_le zero_f (fin true m e) h (at_most→le (fin true m e) zero_f tt tt (omega arith)))

above_zero : (x : Float) → lt f0 x ≡ true → T (lt zero_f x)
above_zero x e = subst (λ (z : Float). T (lt z x)) zero_is (yes_of e)

-- above zero and finite
pub positive_plain : (x : Float) → T (fits binary32 x) → lt f0 x ≡ true → le x most ≡ true → T (plain x)
positive_plain x f h k =
    let p = above_zero x h in
    plain_of x f (finite_between zero_f x most tt (unfold of_bits in tt) (lt_le zero_f x p) (yes_of k))
    (positive_clear x p)

pub usual_plain : (x : Float) → T (fits binary32 x) → usual x ≡ true → T (plain x)
unfolding usual
usual_plain x f u = go (lt f0 x) refl u
  where
    go : (b : Bool) → lt f0 x ≡ b → cond b (le x most) false ≡ true → T (plain x)
    go true e v = positive_plain x f e v
    go false e v = absurd (subst T (sym v) tt)

plain_finite : (x : Float) → T (plain x) → T (finite x)
plain_finite nan h = absurd h
plain_finite (inf s) h = absurd h
plain_finite (fin s m e) h = tt

-- ---- a root against a guess
plain_plus : (x : Float) → T (plain x) → T (le zero_f x)
plain_plus nan h = absurd h
plain_plus (inf s) h = absurd h
plain_plus (fin true m e) h = absurd h
plain_plus (fin false m e) h = at_most→le zero_f (fin false m e) tt tt (omega arith)

top_square : (s : Bool) → mul binary64 (inf s) (inf s) ≡ inf false
unfolding mul
top_square true = refl
top_square false = refl

-- whatever the guess: one below zero is reached by every root, and the infinity's square by no plain q
reached_plain
    : (q w : Float) → T (plain q) → T (fits binary32 w) → T (le (mul binary64 w w) q) → T (le w (root_of q))
reached_plain q nan p f l = absurd (square_numbers binary64 nan (le_left (mul binary64 nan nan) q l))
reached_plain q (inf s) p f l =
    absurd (subst (λ (z : Float). T (plain z)) (top_le q (subst (λ (z : Float). T (le z q)) (top_square s) l)) p)
reached_plain q (fin true m e) p f l =
    le_trans (fin true m e) zero_f (root_of q) (at_most→le (fin true m e) zero_f tt tt (omega arith))
    (plain_plus (root_of q) (root_plain q p))
reached_plain q (fin false m e) p f l = reach_law (fin false m e) f q p l

-- no square is below zero, so q is not
pub reached
    : (q w : Float) → T (fits binary32 q) → T (fits binary32 w) → le q most ≡ true
    → le (mul binary64 w w) q ≡ true → T (finite (root_of q)) × T (le w (root_of q))
reached q w f g k l =
    let s : T (le (mul binary64 w w) q) = yes_of l in
    let n = square_numbers binary64 w (le_left (mul binary64 w w) q s) in
    let z : T (le zero_f q) = le_trans zero_f (mul binary64 w w) q (square_up binary64 w n) s in
    let b : T (finite q) = finite_between zero_f q most tt (unfold of_bits in tt) z (yes_of k) in
    ⊎_elim
    (λ c. let p = plain_of q f b c in (plain_finite (root_of q) (root_plain q p), reached_plain q w p g s))
    (λ e.
    let y : T (le w zero_f) = subst (λ (x : Float). T (le w x)) zero_root
    (reached_plain zero_f w zero_fits g (le_trans (mul binary64 w w) q zero_f s e.1)) in
    rw e.0 (b, le_trans w zero_f q y z))
    (sort q z)

pub stayed
    : (q w : Float) → T (plain q) → T (plain w) → le q (mul binary64 w w) ≡ true
    → T (finite (root_of q)) × T (le (root_of q) w)
stayed q w p h l = (plain_finite (root_of q) (root_plain q p), stay_law w h q p (yes_of l))

-- ---- a root against a bound
value_number : (x : Float) (a c : ℕ) → HasValue x false a c → T (number x)
value_number nan a c h = absurd h
value_number (inf s) a c h = absurd h
value_number (fin s m e) a c h = tt

module _ (d : Float) (q : T (plain d)) (h : T (lt zero_f d)) where
  bar_number : T (number (bar_of d))
  unfolding bar_of
  bar_number = let e : lt zero_f d ≡ true = is_yes h in rw e (value_number (bar d) _ _ (bar_value d q))

  bar_positive : T (lt zero_f (bar_of d))
  bar_positive =
      lt_of_not_le zero_f (bar_of d) tt bar_number
      (λ l. lt_not_le zero_f d h (subst (λ (z : Float). T (le d z)) zero_root ((bar_law d zero_f q zero_fits).1 l)))

  over : (s : Float) → T (fits binary32 s) → T (clear s) → T (le (bar_of d) s) → T (le d (root_of s))
  over nan f c l = absurd c
  over (inf true) f c l = absurd c
  over (inf false) f c l = rw root_top (le_top d (plain_number d q))
  over (fin true m e) f c l = absurd c
  over (fin false m e) f c l = (bar_law d (fin false m e) q f).1 l

  under : (s : Float) → T (fits binary32 s) → T (le d (root_of s)) → T (le (bar_of d) s)
  unfolding root_of
  under nan f l = absurd (le_right d nan l)
  under (inf true) f l = absurd (le_right d nan l)
  under (inf false) f l = le_top (bar_of d) bar_number
  under (fin true zero e) f l = absurd (positive_clear (fin true zero e) (lt_le_trans zero_f d (fin true zero e) h l))
  under (fin true (suc m) e) f l = absurd (le_right d nan l)
  under (fin false m e) f l = (bar_law d (fin false m e) q f).0 l

  -- for every s whatever
  far_by_bar : (s : Float) → T (fits binary32 s) → le (bar_of d) s ≡ le d (root_of s)
  far_by_bar s f =
      same_test (le (bar_of d) s) (le d (root_of s))
      (λ l. over s f (positive_clear s (lt_le_trans zero_f (bar_of d) s bar_positive l)) l) (under s f)

-- the infinity is its own bar, and reached by its own root alone
top_bar : bar_of (inf false) ≡ inf false
unfolding bar_of lt mul add of_bits to_bits
top_bar = refl

root_finite : (x : Float) → T (plain x) → T (le (inf false) (root_of x)) → ⊥
root_finite x p l = subst (λ (z : Float). T (plain z)) (top_le (root_of x) l) (root_plain x p)

top_bound : (s : Float) → T (fits binary32 s) → le (inf false) s ≡ le (inf false) (root_of s)
unfolding root_of
top_bound s f =
    same_test (le (inf false) s) (le (inf false) (root_of s)) (λ l. rw (top_le s l, root_top) (le_top (inf false) tt))
    (back s f)
  where
    back : (s : Float) → T (fits binary32 s) → T (le (inf false) (root_of s)) → T (le (inf false) s)
    back nan f l = absurd (le_right (inf false) nan l)
    back (inf true) f l = absurd (le_right (inf false) nan l)
    back (inf false) f l = le_top (inf false) tt
    back (fin true zero e) f l = l
    back (fin true (suc m) e) f l = absurd (le_right (inf false) nan l)
    back (fin false m e) f l = absurd (root_finite (fin false m e) f l)

-- a bound not above zero is reached by every root
none_bound : (d s : Float) → T (fits binary32 s) → T (le d zero_f) → le zero_f s ≡ le d (root_of s)
unfolding root_of
none_bound d s f h =
    same_test (le zero_f s) (le d (root_of s)) (λ l. le_trans d zero_f (root_of s) h (root_plus s f l)) (back s)
  where
    back : (s : Float) → T (le d (root_of s)) → T (le zero_f s)
    back nan l = absurd (le_right d nan l)
    back (inf true) l = absurd (le_right d nan l)
    back (inf false) l = le_top zero_f tt
    back (fin true zero e) l = at_most→le zero_f (fin true zero e) tt tt (omega arith)
    back (fin true (suc m) e) l = absurd (le_right d nan l)
    back (fin false m e) l = at_most→le zero_f (fin false m e) tt tt (omega arith)

-- what is neither above zero nor at most zero is no number
no_bound : (d : Float) → lt f0 d ≡ false → le d f0 ≡ false → d ≡ nan
no_bound nan e k = refl
no_bound (inf true) e k = absurd (not_of k (bottom_le f0 (rw zero_is tt)))
no_bound (inf false) e k = absurd (not_of e (rw zero_is (lt_of_not_le zero_f (inf false) tt tt (λ l. unfold le in l))))
no_bound (fin s m x) e k =
    absurd (not_of e (rw zero_is (lt_of_not_le zero_f (fin s m x) tt tt (λ l. not_of k (rw zero_is l)))))

positive_bound : (d s : Float) → T (fits binary32 s) → T (fits binary32 d) → T (lt zero_f d)
    → le (bar_of d) s ≡ le d (root_of s)
positive_bound nan s fs fd h = absurd (unfold lt in h)
positive_bound (inf true) s fs fd h = absurd (positive_clear (inf true) h)
positive_bound (inf false) s fs fd h = rw top_bar (top_bound s fs)
positive_bound (fin true m e) s fs fd h = absurd (positive_clear (fin true m e) h)
positive_bound (fin false m e) s fs fd h = far_by_bar (fin false m e) fd h s fs

pub far_by_limit : (s d : Float) → T (fits binary32 s) → T (fits binary32 d) → le (limit_of d) s ≡ far_off s d
unfolding limit_of far_off
far_by_limit s d fs fd = first (lt f0 d) refl
  where
    third : (b : Bool) → lt f0 d ≡ false → le d f0 ≡ b → le (cond b zero_f nan) s ≡ le d (root_of s)
    third true e k = none_bound d s fs (subst (λ (z : Float). T (le d z)) zero_is (yes_of k))
    third false e k =
        rw (no_bound d e k) (same_test (le nan s) (le nan (root_of s)) (λ l. absurd (le_left nan s l))
        (λ l. absurd (le_left nan (root_of s) l)))

    first : (b : Bool) → lt f0 d ≡ b → le (cond b (bar_of d) (cond (le d f0) zero_f nan)) s ≡ le d (root_of s)
    first true e = positive_bound d s fs fd (above_zero d e)
    first false e = third (le d f0) e refl

-- ---- two roots
-- of two that are finite, the sign clear
plain_apart
    : (l r : Float) → T (plain l) → T (plain r) → T (lt l r) → T (le (mul binary64 l apart_by) r)
    → T (lt (root_of l) (root_of r))
plain_apart l r p q h k =
    lt_of_not_le (root_of l) (root_of r) (plain_number (root_of l) (root_plain l p))
    (plain_number (root_of r) (root_plain r q))
    (λ g. not-le_of_lt (apart_law l r p q (lt_of_not (units l) (units r) (λ j. lt_not_le l r h (units→le r l q p j))) k)
    (le→units (root_of r) (root_of l) (root_plain r q) (root_plain l p) g))
  where
    lt_of_not : (a b : ℕ) → (b ≤ a → ⊥) → a < b
    lt_of_not a b f = nat.lt_of_not-le f

-- and of any r above it
Clear-apart
    : (l r : Float) → T (plain l) → T (fits binary32 r) → T (clear r) → T (lt l r)
    → T (le (mul binary64 l apart_by) r) → T (lt (root_of l) (root_of r))
Clear-apart l nan p f c h k = absurd c
Clear-apart l (inf true) p f c h k = absurd c
Clear-apart l (inf false) p f c h k =
    rw root_top (lt_of_not_le (root_of l) (inf false) (plain_number (root_of l) (root_plain l p)) tt (root_finite l p))
Clear-apart l (fin true m e) p f c h k = absurd c
Clear-apart l (fin false m e) p f c h k = plain_apart l (fin false m e) p f h k

no_more : mul binary64 zero_f apart_by ≡ zero_f
unfolding mul of_bits round
no_more = refl

roots_apart
    : (l r : Float) → T (fits binary32 l) → T (fits binary32 r) → T (le zero_f l) → T (lt l r)
    → T (le (mul binary64 l apart_by) r) → T (lt (root_of l) (root_of r))
roots_apart l r f g h j k =
    let p : T (lt zero_f r) = le_lt_trans zero_f l r h j in
    let c : T (clear r) = positive_clear r p in
    ⊎_elim
    (λ d. Clear-apart l r (finite_plain l r f d j) g c j k)
    (λ q. rw q.0 (le_lt_trans l zero_f (root_of r) q.1 (subst (λ (z : Float). T (lt z (root_of r))) zero_root
    (Clear-apart zero_f r zero_fits g c p (rw no_more (lt_le zero_f r p))))))
    (sort l h)
  where
    finite_plain : (l r : Float) → T (fits binary32 l) → T (clear l) → T (lt l r) → T (plain l)
    finite_plain nan r f d j = absurd d
    finite_plain (inf true) r f d j = absurd d
    finite_plain (inf false) r f d j = absurd (lt_not_le (inf false) r j (le_top r (lt_right (inf false) r j)))
    finite_plain (fin true m e) r f d j = absurd d
    finite_plain (fin false m e) r f d j = f

module _ (l r : Float) (fl : T (fits binary32 l)) (fr : T (fits binary32 r)) (hl : T (le zero_f l))
    (hr : T (le zero_f r)) where
  pub right_first : le r l ≡ true → false ≡ left_first l r
  unfolding left_first
  right_first e = sym (is_not (λ h. lt_not_le (root_of l) (root_of r) h (root_le r l fr fl hr (yes_of e))))

  pub parted : le r l ≡ false → le (mul binary64 l apart_by) r ≡ true → true ≡ left_first l r
  unfolding left_first
  parted e k =
      sym (is_yes (roots_apart l r fl fr hl
      (lt_of_not_le l r (le_right zero_f l hl) (le_right zero_f r hr) (not_of e)) (yes_of k)))
