-- A lower bound of a cone's square is one of its distance, and how far a point is past an end and past the side bounds
-- its square: each operation keeps the order. Assumes nothing.
use mathlib.Core.Path.{◌≡◌, refl, sym, ap, subst, ◌∙◌}
use mathlib.Core.Bool.{Bool, true, false, cond, not, ◌&&◌}
use Prim.Native.Nat.{zero, suc, ◌*◌}
use native.Mathlib.Nat.{mul-pos}
use native.Mathlib.Omega.{arith}
use lib.Dec.{T, eqb, eqb-suc-zero, lit<}
use lib.IntN.{pos}
use lib.Ieee.{Float, nan, inf, fin, binary32, up, down, unlike, round, of_bits, neg, mul, fits, lt, eq, le}
use lib.Ieee.Fits.{down_pos, add-fits, sub-fits}
use lib.Ieee.Scale.{finite}
use Rattle.root.specs.Root.{root_of}
use Rattle.scalar.specs.F32.{◌⊕◌, ◌⊖◌, ◌⊗◌, f0, fhalf, f1}
use Rattle.scalar.specs.Extremes.{fmin, fmax, clamp_of}
use Rattle.scalar.specs.Signs.{unit}
use Rattle.sdf.specs.Shapes.{cone_end, cone_foot, cone_sign}
use Rattle.float_order.specs.Inside.Order.{number, zero_f, Zero}
use Rattle.float_order.proofs.Order.{yes_of, not_of, finite_number, le_left, le_right, le_trans, le_refl, lt_left}
use Rattle.float_order.proofs.Order.{lt_right, lt_not_le, lt_le, le_lt_trans, le_of_not_lt, neg_le, number_eq}
use Rattle.float_order.proofs.Extremes.{fmax_left, fmax_right, fmin_either}
use Rattle.float_order.proofs.Holding.{neg_plus}
use Rattle.float_order.proofs.Rounding.{round_neg, round_zero, zero_le_zero, zero_is, add_mono, add_number'}
use Rattle.float_order.proofs.Rounding.{add_plus_number, sub_mono, sub_number', mul_mono, mul_plus, square_mono}
use Rattle.float_order.proofs.Rounding.{square_up, square_neg, zero_zero, finite_mul_number, sum_numbers, less_numbers}
use Rattle.float_order.proofs.Roots.{root_fits}
use Rattle.sdf_caps.specs.Inside.Caps.{sq, lesser, not_below, past_end, cbx_at, cone_square, cone_by, Ends, Sides}
use Rattle.sdf_caps.proofs.Laws.{above, opened, once, root_reach, square_above, finite_root, sum_finite}
use Rattle.sdf_caps.proofs.Laws.{zero_sum, zero_square}

-- ---- what a number is made of
neg_back : (y : Float) → T (number (neg y)) → T (number y)
unfolding neg
neg_back nan h = h
neg_back (inf s) h = tt
neg_back (fin s m e) h = tt

product_numbers : (x y : Float) → T (number (x ⊗ y)) → T (number x) × T (number y)
unfolding mul
product_numbers nan y h = absurd h
product_numbers (inf s) nan h = absurd h
product_numbers (inf s) (inf t) h = (tt, tt)
product_numbers (inf s) (fin t n d) h = (tt, tt)
product_numbers (fin s m e) nan h = absurd h
product_numbers (fin s m e) (inf t) h = (tt, tt)
product_numbers (fin s m e) (fin t n d) h = (tt, tt)

none_square : (x : Float) → T (number x) → T (le (sq f0) (sq x))
none_square x n = rw zero_square (square_up binary32 x n)

-- ---- the lesser of two above zero
module _ (a b : Float) (p : T (lt zero_f a)) (q : T (lt zero_f b)) where
  lesser_left : T (le (lesser a b) a)
  lesser_left = go (lt a b) refl
    where
      go : (t : Bool) → lt a b ≡ t → T (le (cond t a b) a)
      go true e = le_refl a (lt_right zero_f a p)
      go false e = le_of_not_lt b a (lt_right zero_f b q) (lt_right zero_f a p) (not_of e)

  lesser_right : T (le (lesser a b) b)
  lesser_right = go (lt a b) refl
    where
      go : (t : Bool) → lt a b ≡ t → T (le (cond t a b) b)
      go true e = lt_le a b (yes_of e)
      go false e = le_refl b (lt_right zero_f b q)

  lesser_up : T (lt zero_f (lesser a b))
  lesser_up = go (lt a b)
    where
      go : (t : Bool) → T (lt zero_f (cond t a b))
      go true = p
      go false = q

-- ---- past an end
pub ends_none : (paba cay : Float) → Ends paba cay f0
ends_none paba cay =
    record { cap = none_square cay; side = λ f h k n. none_square (paba ⊖ f) n; none = λ h. refl }

pub ends_past
    : (paba cay c e : Float) → c ≡ past_end paba → lt f0 c ≡ true → lt f0 cay ≡ true → e ≡ lesser c cay
    → Ends paba cay e
ends_past paba cay c e is h k ise =
    let p = above c h in
    let q = above cay k in
    let u = lesser_up c cay p q in
    subst (Ends paba cay) (sym ise) (record {
      cap = λ n. square_mono binary32 (lesser c cay) cay (lt_le zero_f (lesser c cay) u) (lesser_right c cay p q);
      side = λ f l m n. side f l m n;
      none = λ n. absurd (lt_not_le zero_f cay q (lt_le cay zero_f (subst (λ (z : Float). T (lt cay z)) zero_is n)));
    })
  where
    side
        : (f : Float) → T (le f0 f) → T (le f f1) → T (number (paba ⊖ f))
        → T (le (sq (lesser c cay)) (sq (paba ⊖ f)))
    side f l m n = go (lt paba fhalf) is
      where
        low : T (lt zero_f (lesser c cay))
        low = lesser_up c cay (above c h) (above cay k)

        by : T (le (lesser c cay) c)
        by = lesser_left c cay (above c h) (above cay k)

        num : T (number paba)
        num = (less_numbers binary32 paba f n).0

        go
            : (t : Bool) → c ≡ cond t (neg (paba ⊖ f0)) (paba ⊖ f1)
            → T (le (sq (lesser c cay)) (sq (paba ⊖ f)))
        go true w =
            let g : T (le (paba ⊖ f) (paba ⊖ f0)) = sub_mono binary32 paba paba f f0 (le_refl paba num) l n
            (neg_back (paba ⊖ f0) (subst (λ (z : Float). T (number z)) w (lt_right zero_f c (above c h)))) in
            let j : T (le c (neg (paba ⊖ f))) = subst (λ (z : Float). T (le z (neg (paba ⊖ f)))) (sym w)
            (neg_le (paba ⊖ f) (paba ⊖ f0) g) in
            subst (λ (z : Float). T (le (sq (lesser c cay)) z)) (square_neg binary32 (paba ⊖ f))
            (square_mono binary32 (lesser c cay) (neg (paba ⊖ f)) (lt_le zero_f (lesser c cay) low)
            (le_trans (lesser c cay) c (neg (paba ⊖ f)) by j))
        go false w =
            let g : T (le (paba ⊖ f1) (paba ⊖ f)) = sub_mono binary32 paba paba f1 f (le_refl paba num) m
            (subst (λ (z : Float). T (number z)) w (lt_right zero_f c (above c h))) n in
            square_mono binary32 (lesser c cay) (paba ⊖ f) (lt_le zero_f (lesser c cay) low)
            (le_trans (lesser c cay) c (paba ⊖ f) by (subst (λ (z : Float). T (le z (paba ⊖ f))) (sym w) g))

-- ---- a part of what the side leans by is no more than the whole
unlike_not : (s t : Bool) → unlike s (not t) ≡ not (unlike s t)
unlike_not true true = refl
unlike_not true false = refl
unlike_not false true = refl
unlike_not false false = refl

times_neg : (x y : Float) → x ⊗ neg y ≡ neg (x ⊗ y)
unfolding mul neg
times_neg nan y = refl
times_neg (inf s) nan = refl
times_neg (inf s) (inf t) = ap inf (unlike_not s t)
times_neg (inf s) (fin t n d) = go (eqb n 0)
  where
    go : (b : Bool) → cond b nan (inf (unlike s (not t))) ≡ neg (cond b nan (inf (unlike s t)))
    go true = refl
    go false = ap inf (unlike_not s t)
times_neg (fin s m e) nan = refl
times_neg (fin s m e) (inf t) = go (eqb m 0)
  where
    go : (b : Bool) → cond b nan (inf (unlike s (not t))) ≡ neg (cond b nan (inf (unlike s t)))
    go true = refl
    go false = ap inf (unlike_not s t)
times_neg (fin s m e) (fin t n d) =
    ap (λ (u : Bool). round binary32 u (m * up e * (n * up d)) (down e * down d)) (unlike_not s t)
    ∙ round_neg binary32 (unlike s t) (m * up e * (n * up d)) (down e * down d)

neg_neg : (x : Float) → neg (neg x) ≡ x
unfolding neg
neg_neg nan = refl
neg_neg (inf true) = refl
neg_neg (inf false) = refl
neg_neg (fin true m e) = refl
neg_neg (fin false m e) = refl

one_is : f1 ≡ unit false
unfolding of_bits
one_is = refl

share
    : (f r : Float) → T (le f0 f) → T (le f f1) → T (fits binary32 r) → T (number (f ⊗ r))
    → T (le (f ⊗ r) (not_below r))
share f r h k held n = go (lt r f0) refl
  where
    plus : T (le zero_f f)
    plus = subst (λ (z : Float). T (le z f)) zero_is h

    num : T (number r)
    num = (product_numbers f r n).1

    go : (b : Bool) → lt r f0 ≡ b → T (le (f ⊗ r) (cond b f0 r))
    go true e =
        let l : T (le r zero_f) = lt_le r zero_f (subst (λ (z : Float). T (lt r z)) zero_is (yes_of e)) in
        let z : T (le zero_f (neg zero_f)) = unfold neg in (unfold le in tt) in
        let q : T (le zero_f (neg r)) = le_trans zero_f (neg zero_f) (neg r) z (neg_le r zero_f l) in
        let t : f ⊗ r ≡ neg (f ⊗ neg r) = ap (λ (z : Float). f ⊗ z) (sym (neg_neg r)) ∙ times_neg f (neg r) in
        let m : T (number (f ⊗ neg r)) = neg_back (f ⊗ neg r) (subst (λ (z : Float). T (number z)) t n) in
        rw (t, zero_is) (neg_plus (f ⊗ neg r) (mul_plus binary32 f (neg r) plus q m))
    go false e =
        let q : T (le zero_f r) = le_of_not_lt zero_f r tt num (λ l. not_of e (rw zero_is l)) in
        let c : f1 ⊗ r ≡ r = rw one_is (once r held) in
        subst (λ (z : Float). T (le (f ⊗ r) z)) c
        (mul_mono binary32 f f1 r r plus k q (le_refl r num) n (rw c num))

-- ---- past the side
cax_number : (x r : Float) → T (number (fmax f0 (x ⊖ r)))
cax_number x r = le_right f0 (fmax f0 (x ⊖ r)) (fmax_left f0 (x ⊖ r) (rw zero_is tt))

pub sides_none : (x ra rb rba : Float) → Sides x ra rb rba f0
sides_none x ra rb rba =
    record {
      first = none_square (fmax f0 (x ⊖ ra)) (cax_number x ra);
      last = none_square (fmax f0 (x ⊖ rb)) (cax_number x rb);
      side = λ f h k n. none_square (cbx_at x ra rba f) n;
      none = λ f h k n. refl;
    }

whole_number : (r : Float) → T (number (not_below r)) → T (number r)
whole_number r n = go (lt r f0) refl n
  where
    go : (b : Bool) → lt r f0 ≡ b → T (number (cond b f0 r)) → T (number r)
    go true e n = lt_left r f0 (yes_of e)
    go false e n = n

module _ (x o ra rb : Float) (small : T (finite x)) (reach : T (le o x))
    (p : T (lt zero_f (o ⊖ fmax ra rb))) (q : T (lt zero_f (o ⊖ ra ⊖ not_below (rb ⊖ ra)))) where
  abbrev z : Float
  z = lesser (o ⊖ fmax ra rb) (o ⊖ ra ⊖ not_below (rb ⊖ ra))

  z_up : T (lt zero_f z)
  z_up = lesser_up (o ⊖ fmax ra rb) (o ⊖ ra ⊖ not_below (rb ⊖ ra)) p q

  by : T (number (o ⊖ ra)) × T (number (not_below (rb ⊖ ra)))
  by = less_numbers binary32 (o ⊖ ra) (not_below (rb ⊖ ra)) (lt_right zero_f (o ⊖ ra ⊖ not_below (rb ⊖ ra)) q)

  ra_number : T (number ra)
  ra_number = (less_numbers binary32 o ra by.0).1

  rb_number : T (number rb)
  rb_number = (less_numbers binary32 rb ra (whole_number (rb ⊖ ra) by.1)).0

  squares : (y : Float) → T (le z y) → T (le (sq z) (sq y))
  squares y h = square_mono binary32 z y (lt_le zero_f z z_up) h

  end : (r : Float) → T (number r) → T (le r (fmax ra rb)) → T (le (sq z) (sq (fmax f0 (x ⊖ r))))
  end r n h =
      let k = sub_number' binary32 x r small n in
      squares (fmax f0 (x ⊖ r))
      (le_trans z (o ⊖ fmax ra rb) (fmax f0 (x ⊖ r))
      (lesser_left (o ⊖ fmax ra rb) (o ⊖ ra ⊖ not_below (rb ⊖ ra)) p q)
      (le_trans (o ⊖ fmax ra rb) (x ⊖ r) (fmax f0 (x ⊖ r))
      (sub_mono binary32 o x (fmax ra rb) r reach h (lt_right zero_f (o ⊖ fmax ra rb) p) k) (fmax_right f0 (x ⊖ r) k)))

  side
      : (f : Float) → T (le f0 f) → T (le f f1) → T (number (cbx_at x ra (rb ⊖ ra) f))
      → T (le z (cbx_at x ra (rb ⊖ ra) f))
  side f h k n =
      let w = less_numbers binary32 (x ⊖ ra) (f ⊗ (rb ⊖ ra)) n in
      le_trans z (o ⊖ ra ⊖ not_below (rb ⊖ ra)) (cbx_at x ra (rb ⊖ ra) f)
      (lesser_right (o ⊖ fmax ra rb) (o ⊖ ra ⊖ not_below (rb ⊖ ra)) p q)
      (sub_mono binary32 (o ⊖ ra) (x ⊖ ra) (not_below (rb ⊖ ra)) (f ⊗ (rb ⊖ ra))
      (sub_mono binary32 o x ra ra reach (le_refl ra ra_number) by.0 w.0)
      (share f (rb ⊖ ra) h k (sub-fits binary32 rb ra) w.1) (lt_right zero_f (o ⊖ ra ⊖ not_below (rb ⊖ ra)) q) n)

  past : Sides x ra rb (rb ⊖ ra) z
  past = record {
    first = end ra ra_number (fmax_left ra rb ra_number);
    last = end rb rb_number (fmax_right ra rb rb_number);
    side = λ f h k n. squares (cbx_at x ra (rb ⊖ ra) f) (side f h k n);
    none = λ f h k n. absurd (under f (side f h k (lt_left (cbx_at x ra (rb ⊖ ra) f) f0 n)) n);
  }
    where
      under : (f : Float) → T (le z (cbx_at x ra (rb ⊖ ra) f)) → T (lt (cbx_at x ra (rb ⊖ ra) f) f0) → ⊥
      under f g n =
          lt_not_le zero_f z z_up (lt_le z zero_f (le_lt_trans z (cbx_at x ra (rb ⊖ ra) f) zero_f g
          (subst (λ (u : Float). T (lt (cbx_at x ra (rb ⊖ ra) f) u)) zero_is n)))

pub sides_past
    : (g o ra rb rba m u r : Float) → T (finite (root_of g)) × T (le o (root_of g)) → m ≡ fmax ra rb → u ≡ not_below rba
    → lt f0 (o ⊖ m) ≡ true → lt f0 (o ⊖ ra ⊖ u) ≡ true → r ≡ lesser (o ⊖ m) (o ⊖ ra ⊖ u) → rba ≡ rb ⊖ ra
    → Sides (root_of g) ra rb rba r
sides_past g o ra rb rba m u r reach em eu h k er eb =
    let v : u ≡ not_below (rb ⊖ ra) = eu ∙ ap not_below eb in
    let p = above (o ⊖ fmax ra rb) (subst (λ (z : Float). lt f0 (o ⊖ z) ≡ true) em h) in
    let q = above (o ⊖ ra ⊖ not_below (rb ⊖ ra)) (subst (λ (z : Float). lt f0 (o ⊖ ra ⊖ z) ≡ true) v k) in
    let e : r ≡ lesser (o ⊖ fmax ra rb) (o ⊖ ra ⊖ not_below (rb ⊖ ra)) = er
    ∙ ap (λ (z : Float). lesser (o ⊖ z) (o ⊖ ra ⊖ u)) em ∙ ap (λ (z : Float). lesser (o ⊖ fmax ra rb) (o ⊖ ra ⊖ z)) v in
    subst (λ (z : Float). Sides (root_of g) ra rb z r) (sym eb)
    (subst (Sides (root_of g) ra rb (rb ⊖ ra)) (sym e) (past (root_of g) o ra rb reach.0 reach.1 p q))

-- ---- the foot lies on the side
foot_range : (v : Float) → T (number (clamp_of v f0 f1)) → T (le f0 (clamp_of v f0 f1)) × T (le (clamp_of v f0 f1) f1)
unfolding clamp_of
foot_range v n = outer (lt f1 (cond (lt v f0) f0 v)) refl n
  where
    low : (b : Bool) → lt v f0 ≡ b → T (number (cond b f0 v)) → T (le f0 (cond b f0 v))
    low true e n = le_refl f0 n
    low false e n = le_of_not_lt f0 v (rw zero_is tt) n (not_of e)

    outer
        : (b : Bool) → lt f1 (cond (lt v f0) f0 v) ≡ b → T (number (cond b f1 (cond (lt v f0) f0 v)))
        → T (le f0 (cond b f1 (cond (lt v f0) f0 v))) × T (le (cond b f1 (cond (lt v f0) f0 v)) f1)
    outer true e n = (zero_one, le_refl f1 n)
      where
        zero_one : T (le f0 f1)
        zero_one = rw (zero_is, one_is) (unfold le in tt)
    outer false e n = (
      low (lt v f0) refl n,
      le_of_not_lt (cond (lt v f0) f0 v) f1 n (rw one_is tt) (not_of e),
    )

fmin_bound : (l a b : Float) → T (le l a) → (T (number b) → T (le l b)) → T (le l (fmin a b))
unfolding fmin
fmin_bound l a b h k = go (lt a b) (eq b b) refl
  where
    go : (p q : Bool) → eq b b ≡ q → T (le l (cond p a (cond q b a)))
    go true q e = h
    go false true e = k (yes_of (sym (number_eq b) ∙ e))
    go false false e = h

-- ---- a bound of what is beside the axis and of what is along it bounds the square, and the sign is 1
times_number : (s b : Float) → T (le zero_f s) → T (finite b) → T (lt zero_f b) → T (number (s ⊗ b))
times_number nan b h f p = absurd (le_right zero_f nan h)
times_number (inf true) b h f p = absurd (unfold le in h)
times_number (inf false) nan h f p = absurd f
times_number (inf false) (inf t) h f p = absurd f
times_number (inf false) (fin t zero d) h f p =
    absurd (lt_not_le zero_f (fin t 0 d) p (zero_le_zero (fin t 0 d) zero_f (none t) zero_zero))
  where
    none : (t : Bool) → Zero (fin t 0 d)
    none true = record { fin = tt; gain = refl; loss = omega arith }
    none false = record { fin = tt; gain = omega arith; loss = refl }
times_number (inf false) (fin t (suc n) d) h f p = unfold mul in (rw (eqb-suc-zero n) tt)
times_number (fin s m e) b h f p = finite_mul_number binary32 (fin s m e) b tt f

none_times : (b : Float) → T (finite b) → T (le (zero_f ⊗ b) zero_f)
unfolding mul
none_times nan f = absurd f
none_times (inf t) f = absurd f
none_times (fin t n d) f =
    rw zeros (zero_le_zero (round binary32 (unlike false t) 0 (down (pos 0) * down d)) zero_f
    (round_zero binary32 (unlike false t) (down (pos 0) * down d) (mul-pos (lit< tt) (down_pos d))) zero_zero)
  where
    zeros : 0 * up (pos 0) * (n * up d) ≡ 0
    zeros = omega arith

none_low : (b : Float) → T (finite b) → T (le (sq f0 ⊕ sq f0 ⊗ b) zero_f)
none_low b f =
    let h = none_times b f in
    rw zero_square (le_trans (zero_f ⊕ zero_f ⊗ b) (zero_f ⊕ zero_f) zero_f
    (add_mono binary32 zero_f zero_f (zero_f ⊗ b) zero_f (le_refl zero_f tt) h
    (add_number' binary32 zero_f (zero_f ⊗ b) tt (le_left (zero_f ⊗ b) zero_f h)) (rw zero_sum tt))
    (rw zero_sum (le_refl zero_f tt)))

pub cone_fits : (x paba cay b ra rb rba : Float) → T (fits binary32 (cone_square x paba cay b ra rb rba))
cone_fits x paba cay b ra rb rba =
    fmin_either (λ (z : Float). T (fits binary32 z)) _ _
    (add-fits binary32 (sq (fmax f0 (x ⊖ cone_end paba ra rb))) (sq cay ⊗ b)) (add-fits binary32 _ _)

module _ (x paba cay b ra rb rba z e : Float) (ends : Ends paba cay e) (sides : Sides x ra rb rba z)
    (fb : T (finite b)) (pb : T (lt zero_f b)) (nc : T (number cay)) (f : T (finite (sq z ⊕ sq e ⊗ b)))
    (p : T (lt zero_f (sq z ⊕ sq e ⊗ b))) where
  abbrev foot : Float
  foot = cone_foot x paba b ra rba

  abbrev cbx : Float
  cbx = cbx_at x ra rba foot

  e_number : T (number e)
  e_number =
      (product_numbers e e (product_numbers (sq e) b
      (finite_number (sq e ⊗ b) (sum_finite (sq z) (sq e ⊗ b) f))).0).0

  on_side : T (number cbx) → T (le f0 foot) × T (le foot f1)
  unfolding cone_foot
  on_side n = foot_range _ (product_numbers foot rba (less_numbers binary32 (x ⊖ ra) (foot ⊗ rba) n).1).0

  grown : (a y : Float) → T (le zero_f a) → T (le (sq z) a) → T (number y) → T (le (sq e) (sq y))
      → T (le (sq z ⊕ sq e ⊗ b) (a ⊕ sq y ⊗ b))
  grown a y q h n k =
      let u = times_number (sq y) b (square_up binary32 y n) fb pb in
      let g : T (le (sq e ⊗ b) (sq y ⊗ b)) = mul_mono binary32 (sq e) (sq y) b b (square_up binary32 e e_number) k
      (lt_le zero_f b pb) (le_refl b (finite_number b fb))
      (times_number (sq e) b (square_up binary32 e e_number) fb pb) u in
      add_mono binary32 (sq z) a (sq e ⊗ b) (sq y ⊗ b) h g (finite_number (sq z ⊕ sq e ⊗ b) f)
      (add_plus_number binary32 a (sq y ⊗ b) q
      (mul_plus binary32 (sq y) b (square_up binary32 y n) (lt_le zero_f b pb) u))

  ended : (r : Bool) → T (le (sq z) (sq (fmax f0 (x ⊖ cond r ra rb))))
  ended true = sides.first
  ended false = sides.last

  pub cone_low : T (le (sq z ⊕ sq e ⊗ b) (cone_square x paba cay b ra rb rba))
  unfolding cone_end
  cone_low =
      let cax = fmax f0 (x ⊖ cond (lt paba fhalf) ra rb) in
      fmin_bound (sq z ⊕ sq e ⊗ b) (sq cax ⊕ sq cay ⊗ b) (sq cbx ⊕ sq (paba ⊖ foot) ⊗ b)
      (grown (sq cax) cay (square_up binary32 cax (cax_number x (cond (lt paba fhalf) ra rb)))
      (ended (lt paba fhalf)) nc (ends.cap nc))
      (λ n.
      let m = sum_numbers binary32 (sq cbx) (sq (paba ⊖ foot) ⊗ b) n in
      let c : T (number cbx) = (product_numbers cbx cbx m.0).0 in
      let y : T (number (paba ⊖ foot)) = (product_numbers (paba ⊖ foot) (paba ⊖ foot)
      (product_numbers (sq (paba ⊖ foot)) b m.1).0).0 in
      let r = on_side c in
      grown (sq cbx) (paba ⊖ foot) (square_up binary32 cbx c) (sides.side foot r.0 r.1 c) y
      (ends.side foot r.0 r.1 y))

  pub cone_out : cone_sign cbx cay ≡ f1
  unfolding cone_sign
  cone_out = go (lt cbx f0) (lt cay f0) refl refl
    where
      never : T (lt cbx f0) → T (lt cay f0) → ⊥
      never h k =
          let r = on_side (lt_left cbx f0 h) in
          lt_not_le zero_f (sq z ⊕ sq e ⊗ b) p
          (rw (sides.none foot r.0 r.1 h, ends.none k) (none_low b fb))

      go : (s t : Bool) → lt cbx f0 ≡ s → lt cay f0 ≡ t → cond (s && t) (neg f1) f1 ≡ f1
      go true true h k = absurd (never (yes_of h) (yes_of k))
      go true false h k = refl
      go false t h k = refl

-- ---- what is told with no root, and with one
tested
    : (l d s w t : Float) → T (fits binary32 l) → T (fits binary32 d) → T (le l d) → T (lt f0 w) → T (le t w)
    → T (finite (root_of l)) × T (le w (root_of l)) → s ≡ f1 → T (le t (s ⊗ root_of d))
tested l d s w t fl fd h low k reach is =
    let u = opened w low in
    rw (is, one_is, once (root_of d) (root_fits d fd))
    (le_trans t w (root_of d) k (root_reach l d w fl fd reach.0 reach.1 u h))

pub by_bounds
    : (x paba cay b ra rb rba z e w t : Float) → Ends paba cay e → Sides x ra rb rba z → T (lt f0 w)
    → T (finite b) × T (lt f0 b) × T (number cay) × T (le t w)
    → T (finite (root_of (sq z ⊕ sq e ⊗ b))) × T (le w (root_of (sq z ⊕ sq e ⊗ b)))
    → T (le t (cone_by x paba cay b ra rb rba))
by_bounds x paba cay b ra rb rba z e w t ends sides low sure reach =
    let l = sq z ⊕ sq e ⊗ b in
    let fl : T (fits binary32 l) = add-fits binary32 (sq z) (sq e ⊗ b) in
    let f : T (finite l) = finite_root l reach.0 in
    let p : T (lt zero_f l) = square_above l l w fl fl reach.0 reach.1 (opened w low)
    (le_refl l (finite_number l f)) in
    let pb = opened b sure.1 in
    tested l (cone_square x paba cay b ra rb rba) (cone_sign (cbx_at x ra rba (cone_foot x paba b ra rba)) cay) w t fl
    (cone_fits x paba cay b ra rb rba) (cone_low x paba cay b ra rb rba z e ends sides sure.0 pb sure.2 f p) low
    sure.3 reach (cone_out x paba cay b ra rb rba z e ends sides sure.0 pb sure.2 f p)

minus_one : T (lt f0 (neg f1)) → ⊥
unfolding lt neg of_bits
minus_one h = h

sign_one : (a c : Float) → lt f0 (cone_sign a c) ≡ true → cone_sign a c ≡ f1
unfolding cone_sign
sign_one a c h = go (lt a f0 && lt c f0) h
  where
    go : (b : Bool) → lt f0 (cond b (neg f1) f1) ≡ true → cond b (neg f1) f1 ≡ f1
    go true h = absurd (minus_one (yes_of h))
    go false h = refl

pub by_square
    : (x paba cay b ra rb rba d s w t : Float) → d ≡ cone_square x paba cay b ra rb rba
    → s ≡ cone_sign (cbx_at x ra rba (cone_foot x paba b ra rba)) cay → T (lt f0 w)
    → T (finite (root_of d)) × T (le w (root_of d)) → lt f0 s ≡ true → le t w ≡ true
    → T (le t (cone_by x paba cay b ra rb rba))
by_square x paba cay b ra rb rba d s w t ed es low reach h k =
    let q = cone_square x paba cay b ra rb rba in
    let c = cone_sign (cbx_at x ra rba (cone_foot x paba b ra rba)) cay in
    let r : T (finite (root_of q)) × T (le w (root_of q)) = rw ed at reach in
    let f = cone_fits x paba cay b ra rb rba in
    tested q q c w t f f (le_refl q (finite_number q (finite_root q r.0))) low (yes_of k) r
    (sign_one _ cay (subst (λ (z : Float). lt f0 z ≡ true) es h))
