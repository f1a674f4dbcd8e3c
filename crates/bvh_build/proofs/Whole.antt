-- The build of a plan: the table that the code fills has the boxes of the plan's objects, its numbers are theirs, and
-- the parts past them stand. By the laws of `laid` and of what a build depends on. Assumes nothing.
use Rattle.std.proofs.Common.{◌≡◌, ℕ, ◌+◌, ◌*◌, ◌/◌, ◌<◌, ◌≤◌, true, false, List, ◌++◌, length, get_or, drop, replicate, sym, refl, ap, ◌∙◌, subst, arith, ext_get_or, lt-ltb, eq-eqb, ne_eqb}
use lib.ListN.{length-replicate, get_or-replicate}
use lib.Ieee.{Float, nan}
use Rattle.vectors.specs.Vec.{vsplat}
use Rattle.sdf.specs.declared.Aabb.{Aabb}
use Rattle.words.specs.Lists.{list_from}
use Rattle.words.proofs.Runs.{get_d_from, length_from, from_same}
use Rattle.plan.specs.Sections.{objects}
use Rattle.plan.specs.Plan.{Plan, count_of, plan_of}
use Rattle.bvh_boxes.specs.Boxes.{boxes_of, box_at, no_box}
use Rattle.bvh_boxes.proofs.Lists as lists
use Rattle.bvh_boxes.proofs.Lists.{boxes_length}
use Rattle.bvh_rules.specs.Rules.{place}
use Rattle.bvh_range.specs.Inside.Table.{table_boxes}
use Rattle.bvh_range.proofs.Table.{box_count, box_here}
use Rattle.bvh_split.proofs.Perms.{Each}
use Rattle.bvh_build.specs.declared.Built.{Built}
use Rattle.bvh_build.specs.Build.{TreeOrder, build_of}
use Rattle.bvh_build.specs.Encode.{laid}
use Rattle.bvh_build.specs.Inside.Narrow.{low32}
use Rattle.bvh_build.specs.Tables.{built_of, size_of, low_enough, nodes_with, order_with}
use Rattle.bvh_build.specs.Inside.Lays.{Lays, Room, Builds, BuildsFew, zero_box}
use Rattle.bvh_build.proofs.Laid.{laid_here, laid_front}
use Rattle.bvh_build.proofs.Shape.{order_length}
use Rattle.bvh_build.proofs.Same.{Alike, build_same}

-- ---- the numbers of n objects
numbers_same : (n : ℕ) → n ≤ 256 → list_from low32 0 n ≡ list_from place 0 n
numbers_same n h = from_same low32 place 0 0 n (λ k l. rw (lt-ltb (0 + k) 4294967296 (omega arith)))

-- ---- a table with boxes laid over it
table_alike
    : (bs zs : List Aabb) (n : ℕ) → length bs ≡ n → n ≤ length zs
    → Each (Alike (laid zs 0 bs) bs) (list_from place 0 n)
table_alike bs zs n e h i l =
    let k : i < n = omega (arith, length_from place 0 n) in
    let z : 0 + i ≡ i = omega arith in
    rw (get_d_from place 0 n i 0 k)
    (laid_here zs 0 bs i no_box (omega arith) (omega arith) ∙ ap (λ (j : ℕ). box_at bs j) (sym z))

pub lays_plan
    : (a : Plan) (zs bs : List Aabb) (n : ℕ) (os nw nw' os' : List ℕ) (r : Built)
    → bs ≡ laid zs 0 (boxes_of a)
    → os ≡ list_from low32 0 n → (Room os 0 0 → Lays (build_of bs os) nw 0 0 64 r nw' os')
    → zs ≡ replicate 256 zero_box → n ≡ length a.objects → 0 < length a.objects → length
    a.objects ≤ 256
    → Lays (built_of a) nw 0 0 64 r nw' os'
unfolding built_of
lays_plan a zs bs n os nw nw' os' r eb eo L ez en pos h =
    let c : ℕ = length a.objects in
    let m : length zs ≡ 256 = ap length ez ∙ length-replicate 256 zero_box in
    let e : os ≡ list_from place 0 c = eo ∙ ap (list_from low32 0) en ∙ numbers_same c h in
    let k : length os ≡ c = ap length e ∙ length_from place 0 c in
    let b : build_of bs os ≡ build_of (boxes_of a) (list_from place 0 c)
    = ap (λ (x : List Aabb). build_of x os) eb ∙ ap (build_of (laid zs 0 (boxes_of a))) e
    ∙ build_same (laid zs 0 (boxes_of a)) (boxes_of a) (list_from place 0 c)
    (table_alike (boxes_of a) zs c (boxes_length a) (omega arith)) in
    subst (λ (x : TreeOrder). Lays x nw 0 0 64 r nw' os') b
    (L (record { some = omega arith; nodes = omega arith; places = omega arith }))

-- ---- a table of floats that are all one
pub table_of
    : (n : ℕ) (x : Float) → table_boxes (replicate (8 * n) x) ≡ replicate n
    (record { lo = vsplat x; hi = vsplat x })
unfolding vsplat
table_of n x =
    let f = replicate (8 * n) x in
    let k : length f / 8 ≡ n = omega (arith, length-replicate (8 * n) x) in
    ext_get_or no_box (table_boxes f) (replicate n (record {
      lo =
          vsplat x;
      hi = vsplat x;
    })) (box_count f ∙ k ∙ sym (length-replicate n _)) (λ i h.
    let l : i < n = omega (arith, box_count f) in
    let g : (d : ℕ) → d < 8 → get_or f (8 * i + d) nan ≡ x = λ d q. get_or-replicate (8 * n) (8 * i + d) x nan
    (omega arith) in
    let z : get_or f (8 * i) nan ≡ x = get_or-replicate (8 * n) (8 * i) x nan (omega arith) in
    box_here f i (omega arith)
    ∙ rw (z, g 1 (omega arith), g 2 (omega arith), g 4 (omega arith), g 5 (omega arith), g 6 (omega arith))
    (sym (get_or-replicate n i (record { lo = vsplat x; hi = vsplat x }) no_box l)))

-- ---- the whole
pub builds_none
    : (a : Plan) (nw ow : List ℕ) → length a.objects ≡ 0
    → Builds a nw ow (record { next = 0; low = true }) nw ow
unfolding size_of low_enough nodes_with order_with
builds_none a nw ow z =
    let e = eq-eqb (length a.objects) 0 z in
    record { next_is = rw e; low_is = rw e; nodes_are = rw e; order_is = rw e }

pub builds_some
    : (a : Plan) (nw ow nw' os' : List ℕ) (n : ℕ) (r : Built) → Lays (built_of a) nw 0 0 64 r nw' os'
    → n ≡ length a.objects → 0 < n → n ≤ length ow
    → Builds a nw ow r nw' (os' ++ drop n ow)
unfolding built_of size_of low_enough nodes_with order_with
builds_some a nw ow nw' os' n r L p pos h =
    let m = build_of (boxes_of a) (list_from place 0 (length a.objects)) in
    let e = ne_eqb (length a.objects) 0 (λ q. omega arith) in
    let k : length m.order ≡ n
    = order_length (boxes_of a) (list_from place 0 (length a.objects)) ∙ length_from place 0 (length a.objects)
    ∙ sym p in
    record {
      next_is = rw e (omega (arith, L.next_is));
      low_is = rw e L.low_is;
      nodes_are = rw e L.nodes_are;
      order_is =
          rw (e, L.order_is) (sym (laid_front ow m.order (omega arith) ∙ ap
          (λ (j : ℕ). m.order ++ drop j ow) k));
    }

-- how many objects, as the code counts them
pub objects_count
    : (w : List ℕ) (f : List Float) (n : ℕ) → n ≡ count_of objects w → n ≡ length (plan_of w f).objects
objects_count w f n e = e ∙ sym (lists.box_count w f) ∙ boxes_length (plan_of w f)

-- what a count of 0, one above 256 and one between them leave
pub none_built
    : (w : List ℕ) (f : List Float) (n : ℕ) (nw ow : List ℕ)
    → n ≡ count_of objects w → n ≡ 0 → BuildsFew (plan_of w f) nw ow (record { next = 0; low = true }) nw ow
none_built w f n nw ow e z =
    let k = objects_count w f n e in
    record { few = λ _. builds_none (plan_of w f) nw ow (sym k ∙ z); many = λ h. absurd (omega arith) }

pub unbuilt
    : (w : List ℕ) (f : List Float) (n : ℕ) (nw ow : List ℕ)
    → n ≡ count_of objects w → 256 < n → BuildsFew (plan_of w f) nw ow (record { next = 0; low = false }) nw ow
unbuilt w f n nw ow e m =
    let k = objects_count w f n e in
    record {
      few = λ h. absurd (omega arith);
      many = λ _. record { next_is = refl; low_is = refl; nodes_are = refl; order_is = refl };
    }

pub few_built
    : (w : List ℕ) (f : List Float) (n : ℕ) (nw ow : List ℕ) (r : Built) (nw' ow' : List ℕ)
    → n ≡ count_of objects w → n ≤ 256
    → Builds (plan_of w f) nw ow r nw' ow' → BuildsFew (plan_of w f) nw ow r nw' ow'
few_built w f n nw ow r nw' ow' e m b =
    let k = objects_count w f n e in
    record { few = λ _. b; many = λ h. absurd (omega arith) }
