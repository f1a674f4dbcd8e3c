-- A part moved with no branch: what a turn of the loop leaves, and what its end does. By the definitions, and the cases
-- of a test. Assumes nothing.
use Prim.Native.Nat.{ℕ, suc, ◌+◌, ◌-◌, ◌*◌, ◌/◌, ◌%◌, ◌≤◌, ◌<◌, min}
use mathlib.Core.Path.{◌≡◌, refl, sym, ap, ◌∙◌}
use mathlib.Core.Bool.{Bool, true, false, cond}
use mathlib.Core.List.{List}
use native.Mathlib.Nat.{le_refl, mul-zero, mul-one, mul-le-mul}
use native.Mathlib.Omega.{arith}
use borrow.Author.Tests.{ltb-true, ltb-false}
use lib.Dec.{ltb}
use lib.ListN.{length, get_or, set}
use lib.Seq.{get_or-set_other, set-get_or}
use Rattle.sdf.specs.declared.Aabb.{Aabb}
use Rattle.bvh_boxes.specs.Boxes.{box_at}
use Rattle.bvh_bins.specs.declared.Grid.{Grid}
use Rattle.bvh_bins.specs.Bins.{bin_of}
use Rattle.bvh_bins.proofs.Placed.{bin_few}
use Rattle.bvh_split.specs.Part.{swapped, goes_left, Parted, part_from}

-- ---- one where a bin lies below the split
pub one_law
    : (k s split : ℕ) → s ≡ min split 12
    → ((s + 15 - k % 16) / 16 ≤ 1) × (k ≤ 11 → (s + 15 - k % 16) / 16 ≡ cond (ltb k split) 1 0)
one_law k s split e = (omega arith, λ l. go l (ltb k split) refl)
  where
    go : k ≤ 11 → (b : Bool) → ltb k split ≡ b → (s + 15 - k % 16) / 16 ≡ cond b 1 0
    go l true p = let q = ltb-true k split p in omega arith
    go l false p = let q = ltb-false k split p in omega arith

pub times_most : (a b : ℕ) → a * (b % 2) ≤ a
times_most a b = let h : b % 2 ≤ 1 = omega arith in omega (arith, mul-le-mul (le_refl a) h)

pub place_law
    : (i j one : ℕ)
    → (i - (i - j) * (one % 2) ≤ i) × (one ≡ 0 → i - (i - j) * (one % 2) ≡ i)
    × (j ≤ i → one ≡ 1 → i - (i - j) * (one % 2) ≡ j)
place_law i j one = (
  omega arith,
  λ e. let z : (i - j) * (one % 2) ≡ 0 = ap (λ (b : ℕ). (i - j) * (b % 2)) e ∙ mul-zero (i - j) in omega arith,
  λ l e. let z : (i - j) * (one % 2) ≡ i - j = ap (λ (b : ℕ). (i - j) * (b % 2)) e ∙ mul-one (i - j) in omega arith,
)

-- ---- an object more is parted
module _ (bs : List Aabb) (g : Grid) (split n i : ℕ) where
  part_step : (mid : ℕ) (os : List ℕ) → i < n
      → part_from bs g split (n - i) i mid os
      ≡ part_from bs g split (n - (i + 1)) (i + 1)
      (cond (goes_left bs g split (get_or os i 0)) (mid + 1) mid)
      (cond (goes_left bs g split (get_or os i 0)) (swapped i mid os) os)
  unfolding part_from
  part_step mid os h =
      let e : n - i ≡ suc (n - (i + 1)) = omega arith in
      ap (λ (k : ℕ). part_from bs g split k i mid os) e

  -- by the test's outcome
  part_more
      : (mid mid' : ℕ) (os os' : List ℕ) (b : Bool) (p : Parted) → i < n
      → goes_left bs g split (get_or os i 0) ≡ b
      → mid' ≡ cond b (mid + 1) mid → os' ≡ cond b (swapped i mid os) os → part_from bs g split
      (n - i) i mid os ≡ p
      → part_from bs g split (n - (i + 1)) (i + 1) mid' os' ≡ p
  part_more mid mid' os os' b p h t m o q = rw (m, o, sym t) (sym (part_step mid os h) ∙ q)

  pub part_none
      : (mid : ℕ) (os : List ℕ) (p : Parted) → n ≤ i → part_from bs g split (n - i) i mid os ≡ p
      → (mid ≡ p.mid) × (os ≡ p.order)
  unfolding part_from
  part_none mid os p h q =
      let e : n - i ≡ 0 = omega arith in
      let r = ap (λ (k : ℕ). part_from bs g split k i mid os) (sym e) ∙ q in
      (ap (λ (x : Parted). x.mid) r, ap (λ (x : Parted). x.order) r)

swapped_self : (i : ℕ) (xs : List ℕ) → swapped i i xs ≡ xs
unfolding swapped
swapped_self i xs = go (ltb i (length xs))
  where
    go
        : (a : Bool) → cond a (cond a (set (set xs i (get_or xs i 0)) i (get_or xs i 0)) xs) xs ≡ xs
    go true = ap (λ (w : List ℕ). set w i (get_or xs i 0)) (set-get_or xs i 0) ∙ set-get_or xs i 0
    go false = refl

-- past both places nothing moves
pub swapped_past : (i k j : ℕ) (xs : List ℕ) → i < j → k < j → get_or (swapped i k xs) j 0 ≡ get_or xs j 0
unfolding swapped
swapped_past i k j xs h l = go (ltb i (length xs)) (ltb k (length xs))
  where
    go : (a b : Bool)
        → get_or (cond a (cond b (set (set xs i (get_or xs k 0)) k (get_or xs i 0)) xs) xs) j 0 ≡ get_or xs j 0
    go true true =
        get_or-set_other (set xs i (get_or xs k 0)) k j (get_or xs i 0) 0 (λ z. omega arith)
        ∙ get_or-set_other xs i j (get_or xs k 0) 0 (λ z. omega arith)
    go true false = refl
    go false b = refl

module _ (bs : List Aabb) (g : Grid) (split : ℕ) where
  one_left
      : (o p one : ℕ) → p ≡ bin_of g (box_at bs o) → (p ≤ 11 → one ≡ cond (ltb p split) 1 0)
      → one ≡ cond (goes_left bs g split o) 1 0
  unfolding goes_left
  one_left o p one e h = h (bin_few g (box_at bs o) p e) ∙ ap (λ (q : ℕ). cond (ltb q split) 1 0) e

  pub part_by
      : (n i mid mid' one k p : ℕ) (os os' : List ℕ) (w : Parted) → i < n
      → p ≡ bin_of g (box_at bs (get_or os i 0)) → (p ≤ 11 → one ≡ cond (ltb p split) 1 0)
      → (one ≡ 0 → k ≡ i) → (one ≡ 1 → k ≡ mid)
      → os' ≡ swapped i k os → mid' ≡ mid + one → part_from bs g split (n - i) i mid os ≡ w
      → part_from bs g split (n - (i + 1)) (i + 1) mid' os' ≡ w
  part_by n i mid mid' one k p os os' w h e o k0 k1 s m v =
      go (goes_left bs g split (get_or os i 0)) refl (one_left (get_or os i 0) p one e o)
    where
      go
          : (b : Bool) → goes_left bs g split (get_or os i 0) ≡ b
          → one ≡ cond (goes_left bs g split (get_or os i 0)) 1 0
          → part_from bs g split (n - (i + 1)) (i + 1) mid' os' ≡ w
      go true q u =
          let z : one ≡ 1 = u ∙ ap (λ (b : Bool). cond b 1 0) q in
          part_more bs g split n i mid mid' os os' true w h q (m ∙ ap (λ (x : ℕ). mid + x) z)
          (s ∙ ap (λ (x : ℕ). swapped i x os) (k1 z)) v
      go false q u =
          let z : one ≡ 0 = u ∙ ap (λ (b : Bool). cond b 1 0) q in
          let y : mid' ≡ mid = omega arith in
          part_more bs g split n i mid mid' os os' false w h q y
          (s ∙ ap (λ (x : ℕ). swapped i x os) (k0 z) ∙ swapped_self i os) v
