-- A range that is cut: the same objects in another order, and some on both sides. By induction on the steps. Assumes
-- nothing.
use Prim.Native.Nat.{ℕ, zero, suc, ◌+◌, ◌/◌, ◌≤◌, ◌<◌}
use mathlib.Core.Path.{◌≡◌, refl}
use mathlib.Core.Bool.{Bool, true, false, cond, ◌||◌}
use mathlib.Core.List.Permᴰ
use mathlib.Core.List.{List}
use native.Mathlib.Omega.{arith}
use lib.Dec.{ltb, eqb}
use lib.ListN.{length, get_or, set}
use borrow.Author.Tests.{ltb-true, eqb-false}
use Rattle.sdf.specs.declared.Aabb.{Aabb}
use Rattle.bvh_bins.specs.declared.Grid.{Grid}
use Rattle.bvh_bins.specs.Bins.{grid_of}
use Rattle.bvh_split.specs.Part.{swapped, goes_left, part_from, parted, evened, split_of, cut_of}
use Rattle.bvh_split.proofs.Perms.{Perm, Each, perm_length, perm_all, exchange_perm}

pub swapped_perm : (i j : ℕ) (xs : List ℕ) → Perm xs (swapped i j xs)
unfolding swapped
swapped_perm i j xs = go (ltb i (length xs)) (ltb j (length xs)) refl refl
  where
    go
        : (a b : Bool) → ltb i (length xs) ≡ a → ltb j (length xs) ≡ b
        → Perm xs (cond a (cond b (set (set xs i (get_or xs j 0)) j (get_or xs i 0)) xs) xs)
    go true true p q = exchange_perm xs i j (ltb-true i (length xs) p) (ltb-true j (length xs) q)
    go true false p q = Permᴰ.refl xs
    go false b p q = Permᴰ.refl xs

pub length_swapped : (i j : ℕ) (xs : List ℕ) → length (swapped i j xs) ≡ length xs
length_swapped i j xs = perm_length (swapped_perm i j xs)

module _ (bs : List Aabb) (g : Grid) (split : ℕ) where
  part_perm : (n i mid : ℕ) (os : List ℕ) → Perm os (part_from bs g split n i mid os).order
  unfolding part_from
  part_perm zero i mid os = Permᴰ.refl os
  part_perm (suc n) i mid os = Permᴰ.trans (go (goes_left bs g split (get_or os i 0))) (part_perm n (i + 1) _ _)
    where
      go : (b : Bool) → Perm os (cond b (swapped i mid os) os)
      go true = swapped_perm i mid os
      go false = Permᴰ.refl os

  -- no more go to the left than there are
  part_mid : (n i mid : ℕ) (os : List ℕ) → mid ≤ i → (part_from bs g split n i mid os).mid ≤ i + n
  unfolding part_from
  part_mid zero i mid os h = omega arith
  part_mid (suc n) i mid os h =
      let k = go (goes_left bs g split (get_or os i 0)) in
      let r = part_mid n (i + 1) _ (cond (goes_left bs g split (get_or os i 0)) (swapped i mid os) os) k in
      omega arith
    where
      go : (b : Bool) → cond b (mid + 1) mid ≤ i + 1
      go true = omega arith
      go false = omega arith

evened_inside : (mid n : ℕ) → mid ≤ n → 4 < n → (0 < evened mid n) × (evened mid n < n)
unfolding evened
evened_inside mid n l h = go (eqb mid 0) (eqb mid n) refl refl
  where
    go
        : (a b : Bool) → eqb mid 0 ≡ a → eqb mid n ≡ b
        → (0 < cond (a || b) (n / 2) mid) × (cond (a || b) (n / 2) mid < n)
    go true b p q = (omega arith, omega arith)
    go false true p q = (omega arith, omega arith)
    go false false p q =
        let y = eqb-false mid 0 p in
        let z = eqb-false mid n q in
        (omega (arith, y), omega (arith, z))

-- ---- the cut
module _ (bs : List Aabb) (os : List ℕ) (c : Aabb) where
  pub cut_once : Perm os (cut_of bs os c).order
  unfolding cut_of parted
  cut_once = part_perm bs (grid_of c) (split_of bs os c) (length os) 0 0 os

  pub cut_length : length (cut_of bs os c).order ≡ length os
  cut_length = perm_length cut_once

  pub cut_mid : 4 < length os → (0 < (cut_of bs os c).mid) × ((cut_of bs os c).mid < length os)
  unfolding cut_of parted
  cut_mid h =
      let l = part_mid bs (grid_of c) (split_of bs os c) (length os) 0 0 os (omega arith) in
      evened_inside (part_from bs (grid_of c) (split_of bs os c) (length os) 0 0 os).mid (length os) (omega arith) h

  pub cut_all : (P : ℕ → Type 0) → Each P os → Each P (cut_of bs os c).order
  cut_all P h = perm_all P cut_once h
