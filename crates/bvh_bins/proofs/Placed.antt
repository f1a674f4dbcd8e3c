-- A bin's number, from a float that is cut, and bins noted at their places: what a turn of the loop leaves. By the
-- cases of a place. Assumes nothing.
use Rattle.std.proofs.Common.{◌≡◌, ℕ, ◌+◌, ◌≤◌, T, List, length, get_or, set, sym, ap, ◌∙◌, ⊎_elim, arith, get_or-set_other, get_or-set_same}
use lib.Ieee.{Float, binary32, of_bits, fits}
use Rattle.sdf.specs.declared.Aabb.{Aabb}
use Rattle.words.proofs.Laws.{less_or}
use Rattle.bvh_boxes.specs.Boxes.{box_at}
use Rattle.bvh_bins.specs.declared.Grid.{Grid}
use Rattle.bvh_bins.specs.Bins.{bin_of}
use Rattle.bvh_bins.specs.Inside.Places.{from_first, to_last, Noted}
use Rattle.bvh_bins.proofs.Whole.{Cuts, cuts}

-- ---- a bin's number
pub cut_held : (x y z : Float) → T (fits binary32 x) → y ≡ from_first x → z ≡ to_last y → Cuts x z
unfolding of_bits
cut_held x y z f p q = rw (q, p) (cuts x f)

bin_most : (g : Grid) (b : Aabb) → bin_of g b ≤ 11
unfolding bin_of
bin_most g b = omega arith

pub bin_few : (g : Grid) (b : Aabb) (k : ℕ) → k ≡ bin_of g b → k ≤ 11
bin_few g b k e = let m = bin_most g b in omega arith

-- ---- one place more is noted
pub noted_turn
    : (bs : List Aabb) (g : Grid) (os places places' : List ℕ) (i k : ℕ) → length places ≡ 256
    → places' ≡ set places i k → k ≡ bin_of g (box_at bs (get_or os i 0)) → Noted bs g os places i
    → Noted bs g os places' (i + 1)
noted_turn bs g os places places' i k n p e h = λ j l q.
    ap (λ (w : List ℕ). get_or w j 0) p
    ∙ ⊎_elim (λ s. get_or-set_other places i j k 0 (λ z. omega arith) ∙ h j s q)
    (λ s. let z : j ≡ i = omega arith in
    ap (λ (m : ℕ). get_or (set places i k) m 0) z
    ∙ get_or-set_same places i k 0 (omega arith)
    ∙ e
    ∙ ap (λ (m : ℕ). bin_of g (box_at bs (get_or os m 0))) (sym z))
    (less_or j i)
