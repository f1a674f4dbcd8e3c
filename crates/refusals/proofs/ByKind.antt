-- What a kind's word is, and what shape it makes, by its kind: a test passes through whatever is made of the kind that
-- it chooses. Assumes nothing.
use Rattle.std.specs.Prelude.{ℕ, ◌<◌, ◌≡◌, ◌≢◌, Bool, true, false, cond, Result, Ok, Err, eqb, Float}
use Rattle.std.proofs.Common.{refl, sym, ◌∙◌, ap, arith, eqb-true}
use Rattle.std.proofs.lemmas.Bool.{eqb-false}
use mathlib.Core.Bool.{true≢false}
use Rattle.vectors.specs.declared.Vec3.{Vec3}
use Rattle.sdf.specs.declared.Shape.{Shape}
use Rattle.sdf.specs.declared.Shape.TheVariants as shapes
use Rattle.std.specs.Result.{result_unwrap_or}
use Rattle.refusals.specs.declared.Kind.{Kind}
use Rattle.refusals.specs.declared.Kind.TheVariants.{Sphere, RoundBox, Plane, Capsule, Torus, Cylinder, Cone}
use Rattle.refusals.specs.declared.UnknownKind.{UnknownKind}
use Rattle.refusals.specs.Kinds.{kind_of, shape_kind, kind_word}
use Rattle.refusals.specs.Prims.{shape_of}

through : {A B : Type 0} (f : A → B) (b : Bool) (x y : A) → f (cond b x y) ≡ cond b (f x) (f y)
through f true x y = refl
through f false x y = refl

same_either : {A : Type 0} (b : Bool) (x : A) → cond b x x ≡ x
same_either true x = refl
same_either false x = refl

-- whatever is made of a word's kind
pub by_kind
    : {A : Type 0} (f : Result Kind UnknownKind → A) (k : ℕ)
    → f (kind_of k)
    ≡ cond (eqb k 0) (f (Ok Sphere))
    (cond (eqb k 1) (f (Ok RoundBox))
    (cond (eqb k 2) (f (Ok Plane))
    (cond (eqb k 3) (f (Ok Capsule))
    (cond (eqb k 4) (f (Ok Torus))
    (cond (eqb k 5) (f (Ok Cylinder))
    (cond (eqb k 6) (f (Ok Cone)) (f (Err (record {})))))))))
unfolding kind_of
by_kind f k = rw (through f, through f, through f, through f, through f, through f, through f)

-- the word of a kind that it is read as, and a word that is none's
back : Result Kind UnknownKind → ℕ → ℕ
back (Ok d) k = kind_word d
back (Err e) k = k

this_or : (k n y : ℕ) → y ≡ k → cond (eqb k n) n y ≡ k
this_or k n y e = go (eqb k n) refl
  where
    go : (b : Bool) → eqb k n ≡ b → cond b n y ≡ k
    go true h = sym (eqb-true k n h)
    go false h = e

back_is : (k : ℕ) → back (kind_of k) k ≡ k
unfolding back
back_is k =
    by_kind (λ (r : Result Kind UnknownKind). back r k) k
    ∙ this_or k 0 _ (this_or k 1 _ (this_or k 2 _ (this_or k 3 _ (this_or k 4 _ (this_or k 5 _ (this_or k 6 _ refl))))))

pub kind_is : (k : ℕ) (d : Kind) → Ok d ≡ kind_of k → k ≡ kind_word d
unfolding back
kind_is k d e = sym (ap (λ (r : Result Kind UnknownKind). back r k) e ∙ back_is k)

known : Result Kind UnknownKind → Bool
known (Ok d) = true
known (Err e) = false

not_this : (k n : ℕ) (y : Bool) → cond (eqb k n) true y ≡ false → (k ≢ n) × (y ≡ false)
not_this k n y = go (eqb k n) refl
  where
    go : (b : Bool) → eqb k n ≡ b → cond b true y ≡ false → (k ≢ n) × (y ≡ false)
    go true h e = absurd (true≢false e)
    go false h e = (eqb-false k n h, e)

pub no_kind : (k : ℕ) (u : UnknownKind) → Err u ≡ kind_of k → 6 < k
unfolding known
no_kind k u e =
    let f : Result Kind UnknownKind → Bool = λ r. known r in
    let p0 = not_this k 0 _ (sym (by_kind f k) ∙ sym (ap f e)) in
    let p1 = not_this k 1 _ p0.1 in
    let p2 = not_this k 2 _ p1.1 in
    let p3 = not_this k 3 _ p2.1 in
    let p4 = not_this k 4 _ p3.1 in
    let p5 = not_this k 5 _ p4.1 in
    let p6 = not_this k 6 _ p5.1 in
    above k p0.0 p1.0 p2.0 p3.0 p4.0 p5.0 p6.0
  where
    above : (k : ℕ) → k ≢ 0 → k ≢ 1 → k ≢ 2 → k ≢ 3 → k ≢ 4 → k ≢ 5 → k ≢ 6 → 6 < k
    above k a b c d e f g = omega arith

-- ---- the shape that it makes
abbrev pub shape_as : Kind → Vec3 → Vec3 → Float → Float → Shape
shape_as Sphere a b u v = (shapes.Sphere) a b.x
shape_as RoundBox a b u v = (shapes.RoundBox) a b u
shape_as Plane a b u v = (shapes.Plane) a b.x
shape_as Capsule a b u v = (shapes.Capsule) a b u
shape_as Torus a b u v = (shapes.Torus) a b.x b.y
shape_as Cylinder a b u v = (shapes.Cylinder) a b u
shape_as Cone a b u v = (shapes.Cone) a b u v

pub shape_by : (k : ℕ) (a b : Vec3) (u v : Float) → shape_of k a b u v ≡ shape_as (shape_kind k) a b u v
unfolding shape_of shape_kind
shape_by k a b u v =
    let f : Result Kind UnknownKind → Shape = λ r. shape_as (result_unwrap_or r Cone) a b u v in
    let e : f (kind_of k) ≡ _ = by_kind f k in
    rw (e, same_either)
