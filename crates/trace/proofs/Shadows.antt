-- A shadow's march, over any field: what one evaluation does to it, how many there are, which points its answer rests
-- on, and that it lies between 0 and 1, since the lesser of a number and anything is a number. By one principle:
-- induction on the evaluations left, by each one's outcome. Assumes nothing.
use Prim.Native.Nat.{ℕ, zero, suc, ◌+◌, ◌-◌, ◌≤◌, ◌<◌}
use mathlib.Core.Path.{◌≡◌, refl, sym, ◌∙◌}
use mathlib.Core.Bool.{Bool, true, false, cond}
use mathlib.Core.List.{List, [], ◌∷◌}
use Rattle.std.specs.Prelude.{Option, Some, None}
use native.Mathlib.Nat.{add-zero, zero-add}
use native.Mathlib.Numerals.{add-one}
use native.Mathlib.Omega.{arith}
use lib.Dec.{T}
use lib.ListN.{length}
use lib.Ieee.{Float, of_bits, lt, le}
use Rattle.scalar.specs.F32.{◌⊕◌, f0, f1, f0·006, f0·12, f1e_3, f1e_4}
use Rattle.scalar.specs.Extremes.{at_least, clamp_of}
use Rattle.float_order.specs.Inside.Order.{number}
use Rattle.float_order.proofs.Order.{not_of, is_yes, le_left, le_right, le_refl, le_of_not_lt}
use Rattle.float_order.proofs.Extremes.{fmin_left}
use Rattle.words.specs.Lists.{All}
use Rattle.vectors.specs.declared.Vec3.{Vec3}
use Rattle.trace.specs.declared.Cone.{Cone}
use Rattle.trace.specs.declared.Shadow.{Shadow}
use Rattle.trace.specs.Trace.{Field, point_at}
use Rattle.trace.specs.Shadow.{shadow_most, darker_of, passed_of, seen_of, pass, pass_at, cone_march, cone_from}
use Rattle.trace.specs.Shadow.{shadow_of}
use Rattle.trace.specs.Seen.{cone_points, shadow_points}
use Rattle.trace.proofs.Marches.{never}

-- ---- between 0 and 1
abbrev pub Between : Float → Float → Float → Type 0
Between lo hi x = T (le lo x) × T (le x hi)

pub clamp_between : (x lo hi : Float) → T (number x) → T (le lo hi) → Between lo hi (clamp_of x lo hi)
unfolding clamp_of
clamp_between x lo hi n h = below (lt hi y) refl
  where
    y : Float
    y = at_least x lo

    above : (b : Bool) → lt x lo ≡ b → T (le lo (cond b lo x))
    above true e = le_refl lo (le_left lo hi h)
    above false e = le_of_not_lt lo x (le_left lo hi h) n (not_of e)

    low : T (le lo y)
    low = above (lt x lo) refl

    below : (b : Bool) → lt hi y ≡ b → Between lo hi (cond b hi y)
    below true e = (h, le_refl hi (le_right lo hi h))
    below false e = (low, le_of_not_lt y hi (le_right lo y low) (le_right lo hi h) (not_of e))

unit : T (le f0 f1)
unfolding of_bits le
unit = tt

-- what is left of the light stays a number
going_number
    : (c : Cone) (h k : Float) (next : Cone)
    → passed_of c h k ≡ Some next
    → T (number c.res)
    → T (number next.res)
unfolding passed_of darker_of
going_number c h k next q n = go (lt h f1e_4) (lt (darker_of c h k) f1e_3) q
  where
    on : Cone
    on = record { res = darker_of c h k; ph = h; t = c.t ⊕ clamp_of h f0·006 f0·12 }

    go : (b e : Bool) → cond b None (cond e None (Some on)) ≡ Some next → T (number next.res)
    go true e q = never (cc)
    go false true q = never (cc)
    go false false q = let i : next ≡ on = cc in rw i (le_left _ c.res (fmin_left c.res _ n))

module _ (field : Field) (ro rd : Vec3) (tmax k : Float) where
  abbrev at : Cone → Option Cone
  at = pass_at field ro rd k

  -- what a march comes to after an evaluation, and the points that follow: by its outcome
  abbrev after : ℕ → ℕ → Option Cone → Shadow
  after left made =
      pass (record { vis = f0; count = made }) (λ (next : Cone). cone_march field ro rd tmax k left next made)

  abbrev onward : ℕ → Option Cone → List Vec3
  onward left = pass [] (λ (next : Cone). cone_points field ro rd tmax k left next)

  -- ---- the code's loop: a turn, and its two ends
  pub cone_turn
      : (c : Cone) (made : ℕ) (whole : Shadow)
      → made < 96
      → lt c.t tmax ≡ true
      → cone_march field ro rd tmax k (96 - made) c made ≡ whole
      → (s : Option Cone)
      → s ≡ at c
      → after (96 - (made + 1)) (made + 1) s ≡ whole
  unfolding cone_march
  cone_turn c made whole h b e s q =
      let l : 96 - made ≡ suc (96 - (made + 1)) = omega arith in
      rw (q, add-one) (rw (l, b, add-one) at e)

  pub cone_past
      : (left : ℕ) (c : Cone) (made : ℕ) (whole : Shadow)
      → lt c.t tmax ≡ false
      → cone_march field ro rd tmax k left c made ≡ whole
      → seen_of c.res made ≡ whole
  unfolding cone_march
  cone_past zero c made whole b e = e
  cone_past (suc left) c made whole b e = rw b at e

  pub cone_spent
      : (c : Cone) (made : ℕ) (whole : Shadow)
      → made ≡ 96
      → cone_march field ro rd tmax k (96 - made) c made ≡ whole
      → seen_of c.res 96 ≡ whole
  unfolding cone_march
  cone_spent c made whole h e = rw h at e

  -- ---- what holds of every march and its points
  cone_each
      : (P : ℕ → Cone → ℕ → Shadow → List Vec3 → Type 0)
      → ((c : Cone) (made : ℕ) → P 0 c made (seen_of c.res made) [])
      → ((left : ℕ) (c : Cone) (made : ℕ) → lt c.t tmax ≡ false → P (suc left) c made
      (seen_of c.res made) [])
      → ((left : ℕ) (c : Cone) (made : ℕ)
      → lt c.t tmax ≡ true
      → at c ≡ None
      → P (suc left) c made (record { vis = f0; count = suc made }) (point_at ro rd c.t ∷ []))
      → ((left : ℕ) (c : Cone) (made : ℕ) (next : Cone) (x : Shadow) (ps : List Vec3)
      → lt c.t tmax ≡ true
      → at c ≡ Some next
      → P left next (suc made) x ps
      → P (suc left) c made x (point_at ro rd c.t ∷ ps))
      → (left : ℕ) (c : Cone) (made : ℕ)
      → P left c made (cone_march field ro rd tmax k left c made) (cone_points field ro rd tmax k left c)
  unfolding cone_march cone_points pass
  cone_each P spent past dark on zero c made = spent c made
  cone_each P spent past dark on (suc left) c made =
      elim (lt c.t tmax) as
      (λ (b : Bool).
      lt c.t tmax ≡ b
      → P (suc left) c made (cond b (after left (suc made) (at c)) (seen_of c.res made))
      (cond b (point_at ro rd c.t ∷ onward left (at c)) [])) [
        | true ↦ λ b.
            elim (at c) as
            (λ (s : Option Cone).
            at c ≡ s → P (suc left) c made (after left (suc made) s) (point_at ro rd c.t ∷ onward left s)) [
              | None ↦ dark left c made b
              | Some n ↦ λ e. on left c made n _ _ b e (cone_each P spent past dark on left n (suc made))
            ]
            refl
        | false ↦ past left c made
      ]
      refl

module _ (field : Field) (ro rd : Vec3) (tmin tmax k : Float) where
  abbrev shadow : Shadow
  shadow = shadow_of field ro rd tmin tmax k

  pub shadow_count : shadow.count ≡ length (shadow_points field ro rd tmin tmax k)
  unfolding shadow_of shadow_points seen_of
  shadow_count =
      cone_each field ro rd tmax k (λ _ _ made x ps. x.count ≡ made + length ps)
      (λ _ made. sym (add-zero made))
      (λ _ _ made _. sym (add-zero made))
      (λ _ _ made _ _. omega arith)
      (λ _ _ made _ x ps _ _ ih. ih ∙ omega arith)
      96 (cone_from tmin) 0
      ∙ zero-add _

  pub shadow_few : length (shadow_points field ro rd tmin tmax k) ≤ shadow_most
  unfolding shadow_points
  shadow_few =
      cone_each field ro rd tmax k (λ left _ _ _ ps. length ps ≤ left)
      (λ _ _. omega arith)
      (λ left _ _ _. omega arith)
      (λ left _ _ _ _. omega arith)
      (λ left _ _ _ _ ps _ _ ih. omega arith)
      96 (cone_from tmin) 0

  shadow_unit : Between f0 f1 shadow.vis
  unfolding shadow_of seen_of of_bits
  shadow_unit =
      cone_each field ro rd tmax k (λ _ c _ x _. T (number c.res) → Between f0 f1 x.vis)
      (λ c _ n. clamp_between c.res f0 f1 n unit)
      (λ _ c _ _ n. clamp_between c.res f0 f1 n unit)
      (λ _ _ _ _ _ _. (le_refl f0 (le_left f0 f1 unit), unit))
      (λ _ c _ next _ _ _ e ih n. ih (going_number c _ k next e n))
      96 (cone_from tmin) 0 tt

  pub shadow_between : (le f0 shadow.vis ≡ true) × (le shadow.vis f1 ≡ true)
  shadow_between = (is_yes shadow_unit.0, is_yes shadow_unit.1)

-- two fields that agree on the points
pub shadow_agrees
    : (f g : Field) (ro rd : Vec3) (tmin tmax k : Float)
    → All (λ (p : Vec3). f p ≡ g p) (shadow_points f ro rd tmin tmax k)
    → shadow_of f ro rd tmin tmax k ≡ shadow_of g ro rd tmin tmax k
unfolding shadow_of shadow_points cone_march pass
shadow_agrees f g ro rd tmin tmax k =
    cone_each f ro rd tmax k
    (λ left c made x ps. All (λ (p : Vec3). f p ≡ g p) ps → x ≡ cone_march g ro rd tmax k left c made)
    (λ _ _ _. refl)
    (λ _ _ _ b _. rw b)
    (λ _ _ _ b e a. rw (b, sym a.0, e))
    (λ _ _ _ _ _ _ b e ih a. rw (b, sym a.0, e) (ih a.1))
    96 (cone_from tmin) 0
