-- A tree's words in the nodes table are the tree standing there: nine words to a node are read back, and a float that
-- fits comes back from its bits. By induction on the tree. Assumes nothing.
use Rattle.std.proofs.Common.{◌≡◌, ℕ, ◌+◌, ◌*◌, ◌<◌, ◌≤◌, T, List, ◌++◌, length, get_or, sym, ap, ◌∙◌, add-zero, arith, length-append, get_or-append-add}
use lib.ListN.{get_or-append}
use lib.Ieee.{Float, binary32, of_bits, fits, nan}
use lib.Ieee.Bits.{of_bits-to_bits}
use Rattle.vectors.specs.declared.Vec3.{Vec3}
use Rattle.sdf.specs.declared.Aabb.{Aabb}
use Rattle.words.specs.Words.{float_at, floats_of}
use Rattle.words.proofs.Runs.{get_d_from}
use Rattle.bvh_boxes.proofs.Vectors.{Three}
use Rattle.bvh_rules.specs.Nodes.{node_at}
use Rattle.bvh_rules.specs.Rules.{Tree, leaf, node, size, weight, Stands}
use Rattle.bvh_build.specs.Encode.{word_for, node_words, encode, laid}
use Rattle.bvh_build.proofs.Laid.{laid_here}
use Rattle.bvh_build.proofs.Shape.{Filled, encode_length}

-- ---- the words ys stand in xs from place i on
abbrev pub Reads : List ℕ → ℕ → List ℕ → Type 0
Reads xs i ys = (k : ℕ) → k < length ys → get_or xs (i + k) 0 ≡ get_or ys k 0

pub reads_laid : (xs : List ℕ) (i : ℕ) (ys : List ℕ) → i + length ys ≤ length xs → Reads (laid xs i ys) i ys
reads_laid xs i ys h k l = laid_here xs i ys k 0 l (omega arith)

pub reads_left : (xs : List ℕ) (i : ℕ) (ys zs : List ℕ) → Reads xs i (ys ++ zs) → Reads xs i ys
reads_left xs i ys zs r k l = r k (omega (arith, length-append ys zs)) ∙ get_or-append ys zs 0 k l

pub reads_right
    : (xs : List ℕ) (i : ℕ) (ys zs : List ℕ) (j : ℕ) → j ≡ i + length ys → Reads xs i (ys ++ zs)
    → Reads xs j zs
reads_right xs i ys zs j e r k l =
    let p : j + k ≡ i + (length ys + k) = omega arith in
    ap (λ (n : ℕ). get_or xs n 0) p ∙ r (length ys + k) (omega (arith, length-append ys zs))
    ∙ get_or-append-add ys zs k 0

-- ---- every corner fits; every box of a tree is such
abbrev pub Fit3 : Vec3 → Type 0
Fit3 v = Three (fits binary32 v.x) (fits binary32 v.y) (fits binary32 v.z)

pub record FitBox (b : Aabb) : Type 0 where
  pub lo : Fit3 b.lo
  pub hi : Fit3 b.hi

abbrev pub FitTree : Tree → Type 0
FitTree (leaf b c) = FitBox b
FitTree (node b l r) = FitBox b × FitTree l × FitTree r

module _ (w : List ℕ) (n : ℕ) where
  corner
      : (i : ℕ) (x : Float) → i < n → T (fits binary32 x) → get_or w i 0 ≡ word_for x
      → get_or (floats_of w n) i nan ≡ x
  unfolding float_at
  corner i x h g e =
      let z : 0 + i ≡ i = omega arith in
      get_d_from (float_at w) 0 n i nan h ∙ ap (float_at w) z ∙ ap (of_bits binary32) e ∙ of_bits-to_bits binary32 x g

  node_reads
      : (at : ℕ) (b : Aabb) (start count right : ℕ) → 9 * at + 9 ≤ n → FitBox b
      → Reads w (9 * at) (node_words b start count right)
      → node_at w (floats_of w n) at ≡ record { hull = b; start = start; count = count; right = right }
  unfolding node_at
  node_reads at b start count right h g r =
      let f0 : get_or w (9 * at) 0 ≡ word_for b.lo.x = ap (λ (k : ℕ). get_or w k 0) (sym (add-zero (9 * at)))
      ∙ r 0 (omega arith) in
      rw (
        corner (9 * at) b.lo.x (omega arith) g.lo.x f0,
        corner (9 * at + 1) b.lo.y (omega arith) g.lo.y (r 1 (omega arith)),
        corner (9 * at + 2) b.lo.z (omega arith) g.lo.z (r 2 (omega arith)),
        corner (9 * at + 3) b.hi.x (omega arith) g.hi.x (r 3 (omega arith)),
        corner (9 * at + 4) b.hi.y (omega arith) g.hi.y (r 4 (omega arith)),
        corner (9 * at + 5) b.hi.z (omega arith) g.hi.z (r 5 (omega arith)),
        r 6 (omega arith),
        r 7 (omega arith),
        r 8 (omega arith),
      )

  -- ---- the tree at place `at` whose first leaf starts at s
  pub stands_here
      : (t : Tree) (at s : ℕ) → 9 * at + 9 * size t ≤ n → Filled t → FitTree t
      → Reads w (9 * at) (encode t at s)
      → Stands w (floats_of w n) at s t
  unfolding encode
  stands_here (leaf b c) at s h p g r = (node_reads at b s c 0 h g r, p)
  stands_here (node b l r) at s h p g q =
      let k = at + 1 + size l in
      let ls = encode l (at + 1) s in
      let rs = encode r k (s + weight l) in
      let top = node_words b 0 0 k in
      let q' = reads_right w (9 * at) top (ls ++ rs) (9 * (at + 1)) (omega arith) q in (
        node_reads at b 0 0 k (omega arith) g.0 (reads_left w (9 * at) top (ls ++ rs) q),
        stands_here l (at + 1) s (omega arith) p.0 g.1 (reads_left w (9 * (at + 1)) ls rs q'),
        stands_here r k (s + weight l) (omega arith) p.1 g.2
            (reads_right w (9 * (at + 1)) ls rs (9 * k) (omega (arith, encode_length l (at + 1) s)) q'),
      )
