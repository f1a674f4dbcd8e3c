-- What the code's loops and stores leave: a node's nine words, and the boxes put one by one. By the laws of `laid`.
-- Assumes nothing.
use Rattle.std.proofs.Common.{◌≡◌, ℕ, suc, ◌+◌, ◌<◌, ◌≤◌, List, [], ◌∷◌, ◌++◌, length, take, set, sym, refl, ap, ◌∙◌, add-one, arith, length-take-le, take_all, take-suc}
use lib.Ieee.{Float}
use Rattle.sdf.specs.declared.Aabb.{Aabb}
use Rattle.bvh_boxes.specs.Boxes.{box_at, no_box}
use Rattle.bvh_range.specs.Inside.Table.{table_boxes, put_box}
use Rattle.bvh_range.proofs.Table.{boxes_put, length_put_box}
use Rattle.bvh_build.specs.Encode.{word_for, node_words, laid}
use Rattle.bvh_build.proofs.Laid.{laid_snoc}

pub node_put : (nw : List ℕ) (i : ℕ) (b : Aabb) (start count right x y z x' y' z' : ℕ)
    → x ≡ word_for b.lo.x → y ≡ word_for b.lo.y → z ≡ word_for b.lo.z → x' ≡ word_for
    b.hi.x → y' ≡ word_for b.hi.y → z' ≡ word_for b.hi.z
    → set (set (set (set (set (set (set (set (set nw i x) (i + 1) y) (i + 2) z) (i + 3) x') (i + 4) y')
    (i + 5) z') (i + 6) start) (i + 7) count) (i + 8) right
    ≡ laid nw i (node_words b start count right)
unfolding laid
node_put nw i b start count right x y z x' y' z' p q r p' q' r' =
    let e2 : i + 2 ≡ suc (suc i) = omega arith in
    let e3 : i + 3 ≡ suc (suc (suc i)) = omega arith in
    let e4 : i + 4 ≡ suc (suc (suc (suc i))) = omega arith in
    let e5 : i + 5 ≡ suc (suc (suc (suc (suc i)))) = omega arith in
    let e6 : i + 6 ≡ suc (suc (suc (suc (suc (suc i))))) = omega arith in
    let e7 : i + 7 ≡ suc (suc (suc (suc (suc (suc (suc i)))))) = omega arith in
    let e8 : i + 8 ≡ suc (suc (suc (suc (suc (suc (suc (suc i))))))) = omega arith in
    rw (p, q, r, p', q', r', add-one i, e2, e3, e4, e5, e6, e7, e8)

-- ---- boxes put one by one
module _ (bs : List Aabb) (t₀ : List Float) where
  abbrev pub Loaded : List Float → ℕ → Type 0
  Loaded t o = (length t ≡ length t₀) × (table_boxes t ≡ laid (table_boxes t₀) 0 (take o bs))

  pub load_none : Loaded t₀ 0
  unfolding laid
  load_none = (refl, refl)

  pub load_more
      : (t t' : List Float) (o : ℕ) (b : Aabb) → o < length bs → b ≡ box_at bs o → t' ≡ put_box t o b
      → Loaded t o → Loaded t' (o + 1)
  load_more t t' o b l e p h =
      let n : 0 + length (take o bs) ≡ o = omega (arith, length-take-le o bs (omega arith)) in
      let r : set (laid (table_boxes t₀) 0 (take o bs)) o (box_at bs o)
      ≡ laid (table_boxes t₀) 0 (take o bs ++ (box_at bs o ∷ []))
      = ap (λ (k : ℕ). set (laid (table_boxes t₀) 0 (take o bs)) k (box_at bs o)) (sym n)
      ∙ sym (laid_snoc (table_boxes t₀) 0 (take o bs) (box_at bs o)) in (
        ap length p ∙ length_put_box t o b ∙ h.0,
        rw (p, boxes_put, h.1, e, add-one, take-suc bs o no_box l) r,
      )

  pub load_all
      : (t : List Float) (o : ℕ) → length bs ≤ o → Loaded t o → table_boxes t ≡ laid (table_boxes t₀) 0 bs
  load_all t o e h = h.1 ∙ ap (laid (table_boxes t₀) 0) (take_all o bs e)
