-- `root_tests::is_root` meets its contract: by `tested`. Assumes nothing.
use mathlib.Core.Path.{◌≡◌, refl, sym, subst, ap, ◌∙◌}
use mathlib.Core.Bool.{Bool, true, false, not, false≢true}
use Prim.Native.Nat.{ℕ, ◌+◌, ◌<◌}
use lib.Dec.{T}
use lib.Ieee.{Float, binary32, to_bits, le}
use Rattle.root.proofs.Whole.{no_nan, no_nan_bits, is_plain}
use Rattle.root_tests.proofs.Squares.{usual_plain}
use Rattle.root_tests.proofs.Tested.{tested}
use native.Mathlib.Omega.{arith}
use Rattle.root_tests.proofs.is_root.Goals as goal

turned : (b : Bool) → not b ≡ true → b ≡ false
turned true e = sym e
turned false e = refl

never : {A : Type 0} → false ≡ true → A
never e = absurd (false≢true e)

more : (b : ℕ) → b < 2139095039 → b + 1 < 2139095040
more b h = omega arith

less : (b : ℕ) → b < 2139095039 → b < 2139095040
less b h = omega arith

pub float_to_bits-b : goal.float_to_bits-b
float_to_bits-b c = no_nan c.args.r c.if-r.true

pub float_from_bits-b : goal.float_from_bits-b
float_from_bits-b c =
    let r = c.args.r in
    no_nan_bits (to_bits binary32 r + 1) (more (to_bits binary32 r) c.if-b-lt2139095039.true)

pub returns-then-at_least : goal.returns-then-at_least
returns-then-at_least c = λ e.
    let x = c.args.x in
    let r = c.args.r in
    tested x r (usual_plain x (subst T (sym c.well_formed.0.1) tt) (sym c.usual.ensures ∙ c.if-usual.true))
    (is_plain r (subst T (sym c.well_formed.1.0.1) tt) c.if-r.true (less (to_bits binary32 r) c.if-b-lt2139095039.true))
    (more (to_bits binary32 r) c.if-b-lt2139095039.true)
    (ap (λ (z : Float). le z x) (sym c.bar.ensures) ∙ sym c.at_least.ensures
    ∙ c.if-at_least.true)
    (ap (λ (z : Float). le z x) (sym c.bar-then-at_least.ensures) ∙ sym c.at_least-then-at_least.ensures
    ∙ turned c.at_least-then-at_least.result e)

pub returns-else-at_least : goal.returns-else-at_least
returns-else-at_least c e = never e

pub returns-else-b-lt2139095039 : goal.returns-else-b-lt2139095039
returns-else-b-lt2139095039 c e = never e

pub returns-else-r : goal.returns-else-r
returns-else-r c e = never e

pub returns-else-usual : goal.returns-else-usual
returns-else-usual c e = never e
