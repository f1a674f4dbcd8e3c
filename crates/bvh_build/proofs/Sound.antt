-- The boxes of sound objects are finite: coordinates, radii and blend are at most 10,000, so corners are at most
-- 40,000. By the bounds of sums and differences. Assumes nothing.
use Rattle.std.proofs.Common.{ℕ, zero, suc, ◌+◌, ◌*◌, ◌^◌, ◌<◌, ◌≤◌, false, ◌&&◌, T, List, [], ◌∷◌, map, length, sym, refl, subst, arith, lit≤}
use lib.Ieee.{Float, binary32, of_bits, neg, le}
use lib.Ieee.Exact.{HasValue}
use lib.Ieee.Fits.{and_l, and_r}
use Rattle.scalar.specs.F32.{◌⊕◌, f0}
use Rattle.scalar.specs.Extremes.{fmax}
use Rattle.scalar.specs.Ranges.{between, magnitude}
use Rattle.vectors.specs.declared.Vec3.{Vec3}
use Rattle.vectors.specs.Vec.{vsplat, vadd, vsub, vmin, vmax}
use Rattle.sdf.specs.declared.Shape.{Shape}
use Rattle.sdf.specs.declared.Shape.TheVariants.{Sphere, RoundBox, Plane, Capsule, Torus, Cylinder, Cone}
use Rattle.sdf.specs.declared.Aabb.{Aabb}
use Rattle.sdf.specs.Boxes.{spread, around, bounds_of, widened, box_of}
use Rattle.refusals.specs.Ranges.{far, greatest, up_to, within, within_up_to, coordinates, radius}
use Rattle.refusals.specs.Prims.{shape_ok}
use Rattle.words.specs.Lists.{All}
use Rattle.plan.specs.Plan.{Piece, Plan}
use Rattle.float_order.specs.Inside.Order.{Bounded, Exactly}
use Rattle.float_order.proofs.Rounding.{zero_is}
use Rattle.float_order.proofs.Bounds.{within_more, within_of, within_of_plus, within_le, within_ge, add_within}
use Rattle.float_order.proofs.Bounds.{sub_within, fmax_within, fmin_within, held_whole}
use Rattle.plan_test.specs.Exact.{PieceOk, SoundObjects}
use Rattle.bvh_boxes.specs.Boxes.{finite_box, object_box, boxes_of, box_at}
use Rattle.bvh_boxes.proofs.Vectors.{Finite, three, bounded}
use Rattle.bvh_boxes.proofs.Laws.{finite_by}

-- ---- the numbers given
far_is : HasValue far false 10000 1
unfolding of_bits
far_is = (refl, refl)

greatest_is : HasValue greatest false (16777215 * 2 ^ 104) 1
unfolding of_bits
greatest_is = (refl, refl)

magnitude_within : (b : ℕ) (y : Float) → HasValue y false b 1 → (x : Float) → T (magnitude x y) → Bounded b x
unfolding magnitude between
magnitude_within b y v x h = within_of b x y v (and_l (le (neg y) x) (le x y) h) (and_r (le (neg y) x) (le x y) h)

radius_within : (x : Float) → T (radius x) → Bounded 10000 x
unfolding radius up_to between
radius_within x h =
    within_of_plus 10000 x far far_is (subst (λ (o : Float). T (le o x)) zero_is (and_l (le f0 x) (le x far) h))
    (and_r (le f0 x) (le x far) h)

-- ---- vectors, by component
record Within3 (b : ℕ) (v : Vec3) : Type 0 where
  x : Bounded b v.x
  y : Bounded b v.y
  z : Bounded b v.z

within_within : (b : ℕ) (y : Float) → HasValue y false b 1 → (v : Vec3) → T (within v y) → Within3 b v
unfolding within
within_within b y e v h =
    let t = three (magnitude v.x y) (magnitude v.y y) (magnitude v.z y) h in
    record {
      x = magnitude_within b y e v.x t.x;
      y = magnitude_within b y e v.y
          t.y;
      z = magnitude_within b y e v.z t.z;
    }

coordinates_within : (v : Vec3) → T (coordinates v) → Within3 10000 v
unfolding coordinates
coordinates_within = within_within 10000 far far_is

radii_within : (v : Vec3) → T (within_up_to v far) → Within3 10000 v
unfolding within_up_to radius
radii_within v h =
    let t = three (radius v.x) (radius v.y) (radius v.z) h in
    record { x = radius_within v.x t.x; y = radius_within v.y t.y; z = radius_within v.z t.z }

more3 : (a b : ℕ) (v : Vec3) → a ≤ b → Within3 a v → Within3 b v
more3 a b v h w =
    record
    { x = within_more a b v.x h w.x; y = within_more a b v.y h w.y; z = within_more a b v.z h w.z }

splat_within : (b : ℕ) (x : Float) → Bounded b x → Within3 b (vsplat x)
unfolding vsplat
splat_within b x w = record { x = w; y = w; z = w }

module _ (a b c : ℕ) (held : Exactly binary32 c) (h : a + b ≤ c) (u v : Vec3) (p : Within3 a u) (q : Within3 b v) where
  vadd_within : Within3 c (vadd u v)
  unfolding vadd
  vadd_within =
      record {
        x = add_within binary32 a b c held u.x v.x p.x q.x h;
        y = add_within binary32 a b c held u.y v.y p.y q.y h;
        z = add_within binary32 a b c held u.z v.z p.z q.z h;
      }

  vsub_within : Within3 c (vsub u v)
  unfolding vsub
  vsub_within =
      record {
        x = sub_within binary32 a b c held u.x v.x p.x q.x h;
        y = sub_within binary32 a b c held u.y v.y p.y q.y h;
        z = sub_within binary32 a b c held u.z v.z p.z q.z h;
      }

module _ (b : ℕ) (u v : Vec3) (p : Within3 b u) (q : Within3 b v) where
  vmin_within : Within3 b (vmin u v)
  unfolding vmin
  vmin_within =
      record {
        x = fmin_within b u.x v.x p.x q.x;
        y = fmin_within b u.y v.y p.y q.y;
        z = fmin_within b u.z v.z p.z q.z;
      }

  vmax_within : Within3 b (vmax u v)
  unfolding vmax
  vmax_within =
      record {
        x = fmax_within b u.x v.x p.x q.x;
        y = fmax_within b u.y v.y p.y q.y;
        z = fmax_within b u.z v.z p.z q.z;
      }

-- ---- boxes
record BoxWithin (b : ℕ) (a : Aabb) : Type 0 where
  lo : Within3 b a.lo
  hi : Within3 b a.hi

held_30000 : Exactly binary32 30000
held_30000 = held_whole binary32 30000 (lit≤ tt)

held_40000 : Exactly binary32 40000
held_40000 = held_whole binary32 40000 (lit≤ tt)

-- corners lo and hi, e further out
out
    : (lo hi e : Vec3) → Within3 10000 lo → Within3 10000 hi → Within3 20000 e
    → BoxWithin 30000 (record { lo = vsub lo e; hi = vadd hi e })
out lo hi e p q r =
    record {
      lo = vsub_within 10000 20000 30000 held_30000 (lit≤ tt) lo e p r;
      hi = vadd_within 10000 20000 30000 held_30000 (lit≤ tt) hi e q r;
    }

widened_within : (b : Aabb) (e : Float) → BoxWithin 30000 b → Bounded 10000 e → BoxWithin 40000 (widened b e)
unfolding widened
widened_within b e p q =
    record {
      lo = vsub_within 30000 10000 40000 held_40000 (lit≤ tt) b.lo (vsplat e) p.lo (splat_within 10000 e q);
      hi = vadd_within 30000 10000 40000 held_40000 (lit≤ tt) b.hi (vsplat e) p.hi (splat_within 10000 e q);
    }

spread_within : (c e : Vec3) → Within3 10000 c → Within3 20000 e → BoxWithin 30000 (spread c e)
unfolding spread
spread_within c e p q = out c c e p p q

around_within
    : (a b : Vec3) (r : Float) → Within3 10000 a → Within3 10000 b → Bounded 10000 r
    → BoxWithin 30000 (around a b r)
unfolding around
around_within a b r p q w =
    out (vmin a b) (vmax a b) (vsplat r) (vmin_within 10000 a b p q) (vmax_within 10000 a b p q)
    (more3 10000 20000 (vsplat r) (lit≤ tt) (splat_within 10000 r w))

torus_within
    : (major minor : Float) → Bounded 10000 major → Bounded 10000 minor
    → Within3 20000 (record { x = major ⊕ minor; y = minor; z = major ⊕ minor })
torus_within major minor p q =
    let s = add_within binary32 10000 10000 20000 (held_whole binary32 20000 (lit≤ tt)) major minor p q (lit≤ tt) in
    record { x = s; y = within_more 10000 20000 minor (lit≤ tt) q; z = s }

-- a plane's stand-in box too
box_within : (s : Shape) (e : Float) → T (shape_ok s) → T (radius e) → BoxWithin 40000 (box_of s e)
unfolding box_of bounds_of shape_ok
box_within (Sphere c r) e h k =
    widened_within (spread c (vsplat r)) e
    (spread_within c (vsplat r) (coordinates_within c (and_l (coordinates c) (radius r) h))
    (more3 10000 20000 (vsplat r) (lit≤ tt) (splat_within 10000 r
    (radius_within r (and_r (coordinates c) (radius r) h)))))
    (radius_within e k)
box_within (RoundBox c b r) e h k =
    let t = three (coordinates c) (within_up_to b far) (radius r) h in
    widened_within (spread c b) e (spread_within c b (coordinates_within c t.x)
    (more3 10000 20000 b (lit≤ tt) (radii_within b t.y))) (radius_within e k)
box_within (Plane n d) e h k = record { lo = none; hi = none }
  where
    none : Within3 40000 (vsplat f0)
    none = splat_within 40000 f0 (subst (Bounded 40000) (sym zero_is) (record { finite = tt; size = lit≤ tt }))
box_within (Capsule a b r) e h k =
    let t = three (coordinates a) (coordinates b) (radius r) h in
    widened_within (around a b r) e (around_within a b r (coordinates_within a t.x) (coordinates_within b t.y)
    (radius_within r t.z)) (radius_within e k)
box_within (Torus c major minor) e h k =
    let t = three (coordinates c) (radius major) (radius minor) h in
    widened_within (spread c (record { x = major ⊕ minor; y = minor; z = major ⊕ minor })) e
    (spread_within c (record { x = major ⊕ minor; y = minor; z = major ⊕ minor }) (coordinates_within c t.x)
    (torus_within major minor (radius_within major t.y) (radius_within minor t.z)))
    (radius_within e k)
box_within (Cylinder a b r) e h k =
    let t = three (coordinates a) (coordinates b) (radius r) h in
    widened_within (around a b r) e (around_within a b r (coordinates_within a t.x) (coordinates_within b t.y)
    (radius_within r t.z)) (radius_within e k)
box_within (Cone a b ra rb) e h k =
    let t = three (coordinates a) (coordinates b) (radius ra && radius rb) h in
    let r = fmax_within 10000 ra rb (radius_within ra (and_l (radius ra) (radius rb) t.z))
    (radius_within rb (and_r (radius ra) (radius rb) t.z)) in
    widened_within (around a b (fmax ra rb)) e (around_within a b (fmax ra rb) (coordinates_within a t.x)
    (coordinates_within b t.y) r) (radius_within e k)

-- ---- what is within 40,000 is finite
small : (x : Float) → Bounded 40000 x → T (magnitude x greatest)
small x w =
    let v = within_more 40000 (16777215 * 2 ^ 104) x (lit≤ tt) w in
    bounded x (within_ge (16777215 * 2 ^ 104) x greatest greatest_is v)
    (within_le (16777215 * 2 ^ 104) x greatest greatest_is v)

small3 : (v : Vec3) → Within3 40000 v → Finite v
small3 v w = record { x = small v.x w.x; y = small v.y w.y; z = small v.z w.z }

box_finite : (b : Aabb) → BoxWithin 40000 b → T (finite_box b)
box_finite b w = finite_by b (small3 b.lo w.lo) (small3 b.hi w.hi)

-- ---- the objects of a plan
own_finite : (n : ℕ) (o : Piece) → PieceOk false n o → T (finite_box (object_box o))
unfolding object_box
own_finite n o h =
    box_finite (box_of o.head.shape o.head.blend)
    (box_within o.head.shape o.head.blend h.own.prim.ranges h.own.blend)

each_finite
    : (n : ℕ) (os : List Piece) → All (PieceOk false n) os
    → (i : ℕ) → i < length os → T (finite_box (box_at (map object_box os) i))
each_finite n [] h i l = absurd (omega arith)
each_finite n (o ∷ os) h zero l = own_finite n o h.0
each_finite n (o ∷ os) h (suc i) l = each_finite n os h.1 i (omega arith)

pub boxes_finite
    : (a : Plan) → SoundObjects a → (i : ℕ) → i < length a.objects → T (finite_box (box_at (boxes_of a) i))
unfolding boxes_of
boxes_finite a s = each_finite (length a.materials) a.objects s.objects.each
