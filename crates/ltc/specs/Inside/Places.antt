-- The five places of corners: those past the corners are zero, so that the corners alone give all of them back. By the
-- laws of lists, the first n and the rest. Assumes nothing.
use Rattle.std.specs.Prelude.{ℕ, ◌≡◌, ◌-◌, ◌≤◌, ◌++◌, List, length, take, drop, replicate}
use Rattle.std.proofs.Common.{sym, ap, subst, ◌∙◌, length-take-le, take-append-drop}
use Rattle.scalar.specs.F32.{f0}
use Rattle.vectors.specs.declared.Vec3.{Vec3}
use Rattle.vectors.specs.Vec.{vsplat}

abbrev pub zeros : ℕ → List Vec3
zeros n = replicate n (vsplat f0)

-- the first n of five are n
pub as_many : (n : ℕ) (ps : List Vec3) → n ≤ 5 → length ps ≡ 5 → length (take n ps) ≡ n
as_many n ps h five = length-take-le n ps (subst (λ (m : ℕ). n ≤ m) (sym five) h)

pub given_back
    : (n : ℕ) (ps : List Vec3) → n ≤ 5 → length ps ≡ 5 → drop n ps ≡ zeros (5 - n)
    → take n ps ++ zeros (5 - length (take n ps)) ≡ ps
given_back n ps h five rest =
    ap (λ (m : ℕ). take n ps ++ zeros (5 - m)) (as_many n ps h five)
    ∙ ap (λ (l : List Vec3). take n ps ++ l) (sym rest)
    ∙ take-append-drop n ps
