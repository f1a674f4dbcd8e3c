-- So many records fit a word, and one record more is one step more: by the test of the length, and by induction on the
-- list. Assumes nothing.
use Prim.Native.Nat.{ℕ, ◌+◌, ◌/◌, ◌%◌, ◌≤◌}
use mathlib.Core.Path.{◌≡◌, refl}
use mathlib.Core.Bool.{true, and-eq-true_iff}
use mathlib.Core.List.{List, [], ◌∷◌, ◌++◌}
use native.Mathlib.Numerals.{add-one}
use Rattle.std.specs.Prelude.{Option, None}
use native.Mathlib.Omega.{arith}
use lib.Dec.{leb, eqb}
use lib.Ieee.{Float}
use lib.Ieee.Nearest.{div_mono}
use borrow.Author.Tests.{leb-true}
use mir.Syntax.{w32}
use mir.Val.{Fits}
use Rattle.vectors.specs.declared.Vec3.{Vec3}
use Rattle.words.specs.Lists.{list_from}
use Rattle.words.proofs.Runs.{from_snoc}
use Rattle.plan.specs.declared.QuadLight.{QuadLight}
use Rattle.emitter.specs.declared.Emitted.{Emitted}
use Rattle.emitter.specs.Emitter.{emitter_step, emitter_from, emitter_of}
use Rattle.bemitondry_emitter.specs.Emitter.{records_ok, lent_light}

pub records_fit : (n : ℕ) → records_ok n ≡ true → Fits w32 (n / 60)
unfolding records_ok
records_fit n e =
    let few : n ≤ 960 = leb-true n 960 ((and-eq-true_iff (eqb (n % 60) 0) (leb n 960)).0 e).1 in
    let small : n / 60 ≤ 960 / 60 = div_mono n 60 960 60 (omega arith) (omega arith) (omega arith) in
    record { fits = omega arith }

module _ (ro rd : Vec3) (tmax : Float) where
  emitter_snoc
      : (best : Option Emitted) (ls : List QuadLight) (l : QuadLight)
      → emitter_from ro rd tmax best (ls ++ (l ∷ [])) ≡ emitter_step ro rd tmax (emitter_from ro rd tmax best ls) l
  unfolding emitter_from
  emitter_snoc best [] l = refl
  emitter_snoc best (k ∷ ls) l = emitter_snoc (emitter_step ro rd tmax best k) ls l

  pub emitter_none : (b : List ℕ) → emitter_of (list_from (lent_light b) 0 0) ro rd tmax ≡ None
  unfolding emitter_of emitter_from list_from
  emitter_none b = refl

  pub emitter_more
      : (b : List ℕ) (i : ℕ)
      → emitter_of (list_from (lent_light b) 0 (i + 1)) ro rd tmax
      ≡ emitter_step ro rd tmax (emitter_of (list_from (lent_light b) 0 i) ro rd tmax) (lent_light b (0 + i))
  unfolding emitter_of
  emitter_more b i = rw (add-one, from_snoc (lent_light b) 0 i, emitter_snoc)
