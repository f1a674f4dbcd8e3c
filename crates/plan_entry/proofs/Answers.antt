-- What an entry answers and leaves, from what its calls gave. Assumes nothing.
use Rattle.std.specs.Prelude.{Result, Ok, Err, ◌≢◌}
use borrow.Author.Tests.{eq-eqb, ne_eqb}
use Prim.Native.Nat.{ℕ}
use mathlib.Core.Path.{◌≡◌}
use mathlib.Core.Bool.{Bool, cond}
use mathlib.Core.List.{List}
use lib.Dec.{eqb}
use lib.Ieee.{Float}
use Rattle.plan.specs.Plan.{count_of, plan_of}
use Rattle.plan_test.specs.declared.Solids.{Solids}
use Rattle.plan_test.specs.Tests.{solids_of}
use Rattle.plan_write.specs.Written.{arg_cuts, section_of, with_piece}
use Rattle.plan_entry.specs.Entry.{piece_number, new_place}
use Rattle.plan_entry.specs.Inside.Adds.{added_of, AddsOne, AddsPiece}

pub adds_piece
    : (before : ℕ) (among : Bool) {w : List ℕ} (f : List Float)
    (bytes : ℕ) {s : Solids} {no n place : ℕ} {r : Result ℕ ℕ}
    {w' : List ℕ}
    → s ≡ solids_of (plan_of w f)
    → no ≡ piece_number before among w f s bytes
    → n ≡ count_of (section_of among) w
    → place ≡ new_place among s (arg_cuts w)
    → r ≡ added_of no n
    → w' ≡ cond (eqb no 0) (with_piece among w place) w
    → AddsPiece before among w f bytes r w'
adds_piece before among f bytes s m n place a l = record { answer = rw (a, n, m, s); table = rw (l, place, m, s) }

pub taken : (number index : ℕ) → number ≡ 0 → ◌≡◌ {A = Result ℕ ℕ} (Ok index) (added_of number index)
unfolding added_of
taken number index h = rw (eq-eqb number 0 h)

pub refused : (number index : ℕ) → number ≢ 0 → ◌≡◌ {A = Result ℕ ℕ} (Err number) (added_of number index)
unfolding added_of
refused number index h = rw (ne_eqb number 0 h)

pub enters
    : {number m index : ℕ} {w left : List ℕ} {r : Result ℕ ℕ} {w' : List ℕ}
    → m ≡ number
    → r ≡ added_of m index
    → w' ≡ cond (eqb m 0) left w
    → AddsOne number index w left r w'
enters q a l = record { answer = rw (a, q); table = rw (l, q) }
