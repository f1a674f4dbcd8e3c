-- `root_tests::root_guess` is safe: the pattern that it makes a float of is no NaN's. Assumes nothing.
use mathlib.Core.Path.{◌≡◌, sym, subst, ◌∙◌}
use mathlib.Core.Bool.{Bool, true}
use Prim.Native.Nat.{ℕ, ◌+◌, ◌*◌, ◌/◌, ◌%◌, ◌<◌}
use lib.Dec.{T}
use lib.Ieee.{Float, binary32, fits, to_bits}
use mir.Syntax.{w32}
use mir.Val.{Fits}
use Rattle.root.specs.Root.{plain}
use Rattle.root.proofs.Laws.{plain_small}
use Rattle.root.proofs.Whole.{no_nan_bits, plain_no_nan}
use Rattle.root_tests.specs.Inside.Tests.{usual}
use Rattle.root_tests.proofs.Squares.{usual_plain}
use native.Mathlib.Omega.{arith}
use Rattle.root_tests.proofs.root_guess.Goals as goal

-- what has passed the test is plain
usual_one : (x : Float) → T (fits binary32 x) → (u : Bool) → u ≡ usual x → u ≡ true → T (plain x)
usual_one x f u e t = usual_plain x f (sym e ∙ t)

small : (x : Float) → T (plain x) → to_bits binary32 x / 8192 * 4096 % 4294967296 + 532484096 < 2139095040
small x p = under (to_bits binary32 x) (plain_small x p)
  where
    under : (b : ℕ) → b < 2139095040 → b / 8192 * 4096 % 4294967296 + 532484096 < 2139095040
    under b h = omega arith

fit : (n : ℕ) → n < 2139095040 → Fits w32 n
fit n h = record { fits = omega arith }

pub float_to_bits-s : goal.float_to_bits-s
float_to_bits-s c =
    plain_no_nan c.args.x
    (usual_one c.args.x (subst T (sym c.well_formed.0.1) tt) _ c.usual.ensures c.if-usual.true)

pub overflow_add-s : goal.overflow_add-s
overflow_add-s c =
    fit (to_bits binary32 c.args.x / 8192 * 4096 % 4294967296 + 532484096) (small c.args.x
    (usual_one c.args.x (subst T (sym c.well_formed.0.1) tt) _ c.usual.ensures c.if-usual.true))

pub float_from_bits-s : goal.float_from_bits-s
float_from_bits-s c =
    no_nan_bits (to_bits binary32 c.args.x / 8192 * 4096 % 4294967296 + 532484096) (small c.args.x
    (usual_one c.args.x (subst T (sym c.well_formed.0.1) tt) _ c.usual.ensures c.if-usual.true))
