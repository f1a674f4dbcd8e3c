-- Which numbers are 0, and which tests pass, of what their parts are held to: both ways, by cases. Assumes nothing.
use Prim.Native.Nat.{ℕ, suc, ◌≤◌, ◌<◌}
use mathlib.Core.Path.{◌≡◌}
use mathlib.Core.Logic.{◌↔◌}
use mathlib.Core.Bool.{Bool, true, cond, ◌&&◌, and-eq-true_iff}
use lib.Dec.{T, leb, ltb}
use borrow.Author.Tests.{leb-true, le-leb, ltb-true, lt-ltb}
use Rattle.refusals.specs.Refusals.{unless, lower}
use Rattle.refusals.proofs.Lowest.{told, cond_zero, unless_zero, lower_zero}

pub as_is : {A : Type 0} → A ↔ A
as_is = (λ x. x, λ x. x)

both_ways
    : {A B C P Q : Type 0}
    → A ↔ (B × C)
    → B ↔ P
    → C ↔ Q
    → A ↔ (P × Q)
both_ways l p q = (λ a. let x = l.0 a in (p.0 x.0, q.0 x.1), λ h. l.1 (p.1 h.0, q.1 h.1))

-- ---- numbers
pub lower_exact : {a b : ℕ} {P Q : Type 0} → (a ≡ 0) ↔ P → (b ≡ 0) ↔ Q → (lower a b ≡ 0) ↔ (P × Q)
lower_exact {a} {b} = both_ways (lower_zero a b)

pub unless_exact : (n : ℕ) {b : Bool} {P : Type 0} → (b ≡ true) ↔ P → (unless (suc n) b ≡ 0) ↔ P
unless_exact n {b} p = let u = unless_zero n b in (λ e. p.0 (u.0 e), λ h. u.1 (p.1 h))

pub cond_exact
    : (n : ℕ) {b : Bool} {a : ℕ} {P Q : Type 0}
    → (b ≡ true) ↔ P
    → (a ≡ 0) ↔ Q
    → (cond b a (suc n) ≡ 0) ↔ (P × Q)
cond_exact n {b} {a} = both_ways (cond_zero b a n)

-- ---- tests
pub and_exact
    : {a b : Bool} {P Q : Type 0} → (a ≡ true) ↔ P → (b ≡ true) ↔ Q → ((a && b) ≡ true) ↔ (P × Q)
and_exact {a} {b} = both_ways (and-eq-true_iff a b)

pub leb_exact : (m n : ℕ) → (leb m n ≡ true) ↔ (m ≤ n)
leb_exact m n = (leb-true m n, le-leb m n)

pub ltb_exact : (m n : ℕ) → (ltb m n ≡ true) ↔ (m < n)
ltb_exact m n = (ltb-true m n, lt-ltb m n)

pub told_exact : (b : Bool) → (b ≡ true) ↔ T b
told_exact b = ((told b).1, (told b).0)
