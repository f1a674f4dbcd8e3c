-- A march to what a ray meets, over any field: what one evaluation does to it, how many there are, which points its
-- answer rests on, and what a hit is. By one principle: induction on the evaluations left, by each one's outcome.
-- Assumes nothing.
use Prim.Native.Nat.{ℕ, zero, suc, ◌+◌, ◌-◌, ◌≤◌}
use mathlib.Core.Path.{◌≡◌, refl, sym, ap, ◌∙◌}
use mathlib.Core.Bool.{Bool, true, false, cond}
use mathlib.Core.List.{List, [], ◌∷◌}
use Rattle.std.specs.Prelude.{Option, Some, None}
use native.Mathlib.Nat.{add-zero, zero-add}
use native.Mathlib.Omega.{arith}
use lib.ListN.{length}
use lib.Ieee.{Float, lt}
use Rattle.scalar.specs.F32.{◌⊕◌}
use Rattle.words.specs.Lists.{All}
use Rattle.vectors.specs.declared.Vec3.{Vec3}
use Rattle.plan.specs.declared.DistHit.{DistHit}
use Rattle.trace.specs.declared.Hit.{Hit}
use Rattle.trace.specs.declared.Step.{Step}
use Rattle.trace.specs.declared.Step.TheVariants.{Found, Past, On}
use Rattle.trace.specs.declared.Traced.{Traced}
use Rattle.trace.specs.Trace.{Field, trace_most, eps_of, point_at, stepped_of, step_at, follow, march, trace_of}
use Rattle.trace.specs.Seen.{steps_in, march_points, trace_points}

pub never : {A : Type 0} → ◌≡◌ {A = ℕ} 0 1 → A
never e = absurd (omega arith)

-- what a ray may meet in a field: a point of its own, nearer than the threshold, of the material there
pub record Surface (field : Field) (ro rd : Vec3) (h : Hit) : Type 0 where
  pub on : h.p ≡ point_at ro rd h.t
  pub near : lt (field h.p).d (eps_of h.t) ≡ true
  pub material : h.mat ≡ (field h.p).mat

-- the two answers after so many evaluations
abbrev met : Hit → ℕ → Traced
met h made = record { hit = Some h; count = made }

abbrev missed : ℕ → Traced
missed made = record { hit = None; count = made }

module _ (field : Field) (ro rd : Vec3) (tmax : Float) where
  abbrev at : Float → Step
  at = step_at field ro rd tmax

  -- what a march comes to after an evaluation, and the points that follow: by its outcome
  abbrev going : ℕ → ℕ → Step → Traced
  going left made =
      follow (λ (h : Hit). met h made) (missed made) (λ (next : Float). march field ro rd tmax left next made)

  abbrev onward : ℕ → Step → List Vec3
  onward left = follow (λ (h : Hit). []) [] (λ (next : Float). march_points field ro rd tmax left next)

  -- ---- the code's loop: a turn, the next one, and its end
  pub march_turn
      : (t : Float) (count : ℕ) (whole : Traced)
      → 1 ≤ count
      → count ≤ 128
      → march field ro rd tmax (129 - count) t (count - 1) ≡ whole
      → (s : Step)
      → s ≡ at t
      → going (128 - count) count s ≡ whole
  unfolding march
  march_turn t count whole g h e s q =
      let l : 129 - count ≡ suc (128 - count) = omega arith in
      let m : suc (count - 1) ≡ count = omega arith in
      let turn : going (128 - count) (suc (count - 1)) (at t) ≡ whole = rw l at e in
      rw q (rw m at turn)

  pub march_next
      : (t : Float) (count : ℕ) (whole : Traced)
      → march field ro rd tmax (128 - count) t count ≡ whole
      → march field ro rd tmax (129 - (count + 1)) t (count + 1 - 1) ≡ whole
  march_next t count whole e =
      let l : 129 - (count + 1) ≡ 128 - count = omega arith in
      let m : count + 1 - 1 ≡ count = omega arith in
      rw (l, m) e

  pub march_spent
      : (t : Float) (count : ℕ) (whole : Traced)
      → count ≡ 129
      → march field ro rd tmax (129 - count) t (count - 1) ≡ whole
      → missed 128 ≡ whole
  unfolding march
  march_spent t count whole h e = rw h at e

  -- ---- what holds of every march and its points
  march_each
      : (P : ℕ → Float → ℕ → Traced → List Vec3 → Type 0)
      → ((t : Float) (made : ℕ) → P 0 t made (missed made) [])
      → ((left : ℕ) (t : Float) (made : ℕ) (h : Hit)
      → at t ≡ Found h
      → P (suc left) t made (met h (suc made)) (point_at ro rd t ∷ []))
      → ((left : ℕ) (t : Float) (made : ℕ)
      → at t ≡ Past
      → P (suc left) t made (missed (suc made)) (point_at ro rd t ∷ []))
      → ((left : ℕ) (t : Float) (made : ℕ) (next : Float) (x : Traced) (ps : List Vec3)
      → at t ≡ On next
      → P left next (suc made) x ps
      → P (suc left) t made x (point_at ro rd t ∷ ps))
      → (left : ℕ) (t : Float) (made : ℕ)
      → P left t made (march field ro rd tmax left t made) (march_points field ro rd tmax left t)
  unfolding march march_points follow
  march_each P spent found past on zero t made = spent t made
  march_each P spent found past on (suc left) t made =
      elim (at t) as
      (λ (s : Step).
      at t ≡ s → P (suc left) t made (going left (suc made) s) (point_at ro rd t ∷ onward left s)) [
        | Found h ↦ found left t made h
        | Past ↦ past left t made
        | On n ↦ λ e. on left t made n _ _ e (march_each P spent found past on left n (suc made))
      ]
      refl

  -- ---- a hit is one
  found_is : (t : Float) (h : Hit) → at t ≡ Found h → Surface field ro rd h
  unfolding stepped_of
  found_is t h = go (lt here.d (eps_of t)) (lt tmax (t ⊕ here.d)) refl
    where
      here : DistHit
      here = field (point_at ro rd t)

      hit : Hit
      hit = record { t = t; p = point_at ro rd t; mat = here.mat }

      go
          : (b e : Bool)
          → lt here.d (eps_of t) ≡ b
          → cond b (Found hit) (cond e Past (On (t ⊕ here.d))) ≡ Found h
          → Surface field ro rd h
      go true e r q = let i : h ≡ hit = cc in rw i (record { on = refl; near = r; material = refl })
      go false true r q = never (cc)
      go false false r q = never (cc)

module _ (field : Field) (ro rd : Vec3) (tmin tmax : Float) where
  pub trace_count : steps_in (trace_of field ro rd tmin tmax) ≡ length (trace_points field ro rd tmin tmax)
  unfolding trace_of trace_points
  trace_count =
      march_each field ro rd tmax (λ _ _ made x ps. steps_in x ≡ made + length ps)
      (λ _ made. sym (add-zero made))
      (λ _ _ made _ _. omega arith)
      (λ _ _ made _. omega arith)
      (λ _ _ made _ x ps _ ih. ih ∙ omega arith)
      128 tmin 0
      ∙ zero-add _

  pub trace_few : length (trace_points field ro rd tmin tmax) ≤ trace_most
  unfolding trace_points
  trace_few =
      march_each field ro rd tmax (λ left _ _ _ ps. length ps ≤ left)
      (λ _ _. omega arith)
      (λ left _ _ _ _. omega arith)
      (λ left _ _ _. omega arith)
      (λ left _ _ _ _ ps _ ih. omega arith)
      128 tmin 0

  pub trace_hit : (h : Hit) (n : ℕ) → trace_of field ro rd tmin tmax ≡ record { hit = Some h; count = n }
      → Surface field ro rd h
  unfolding trace_of
  trace_hit h n =
      march_each field ro rd tmax (λ _ _ _ x _. x ≡ met h n → Surface field ro rd h)
      (λ _ _ e. no e)
      (λ _ t _ g e q. found_is field ro rd tmax t h (e ∙ ap Found (same q)))
      (λ _ _ _ _ e. no e)
      (λ _ _ _ _ _ _ _ ih. ih)
      128 tmin 0
    where
      no : {m : ℕ} → missed m ≡ met h n → Surface field ro rd h
      no e = let o : ◌≡◌ {A = Option Hit} None (Some h) = ap (λ (x : Traced). x.hit) e in never (cc)

      same : {g : Hit} {m : ℕ} → met g m ≡ met h n → g ≡ h
      same e = let o : ◌≡◌ {A = Option Hit} (Some _) (Some h) = ap (λ (x : Traced). x.hit) e in cc

-- two fields that agree on the points
pub trace_agrees
    : (f g : Field) (ro rd : Vec3) (tmin tmax : Float)
    → All (λ (p : Vec3). f p ≡ g p) (trace_points f ro rd tmin tmax)
    → trace_of f ro rd tmin tmax ≡ trace_of g ro rd tmin tmax
unfolding trace_of trace_points march follow
trace_agrees f g ro rd tmin tmax =
    march_each f ro rd tmax
    (λ left t made x ps. All (λ (p : Vec3). f p ≡ g p) ps → x ≡ march g ro rd tmax left t made)
    (λ _ _ _. refl)
    (λ _ _ _ _ e a. rw (sym a.0, e))
    (λ _ _ _ e a. rw (sym a.0, e))
    (λ _ _ _ _ _ _ e ih a. rw (sym a.0, e) (ih a.1))
    128 tmin 0
