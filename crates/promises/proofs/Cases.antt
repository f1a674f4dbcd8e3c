-- What holds of both arms of a test or of each of a list, and the arm of a number above 0: by cases. Assumes nothing.
use Prim.Native.Nat.{ℕ, ◌<◌}
use mathlib.Core.Path.{◌≡◌}
use mathlib.Core.Bool.{Bool, true, false, cond}
use native.Mathlib.Omega.{arith}
use lib.Dec.{eqb}
use borrow.Author.Tests.{ne_eqb}

pub either : {A : Type 0} (P : A → Type 0) (b : Bool) (x y : A) → P x → P y → P (cond b x y)
either P true x y p q = p
either P false x y p q = q

pub cond_some : {A : Type 0} (m : ℕ) (x y : A) → 0 < m → cond (eqb m 0) x y ≡ y
cond_some m x y h = rw (ne_eqb m 0 (λ e. omega arith))

-- each of a list, one after the other
infixr 20 ◌&◌
abbrev pub ◌&◌ : {A B : Type 0} → A → B → A × B
a & b = (a, b)
