-- One call of `build_recursive`, over plain lists: with no room, at a leaf, and at a node whose two parts are built. A
-- node's words lie before its left part's, so it does not matter which is written first. By the laws of one level and
-- of `laid`. Assumes nothing.
use Rattle.std.proofs.Common.{◌≡◌, ℕ, ◌+◌, ◌-◌, ◌*◌, ◌%◌, ◌^◌, ◌<◌, ◌≤◌, Bool, true, false, ◌&&◌, ltb, List, ◌++◌, length, take, drop, sym, refl, ap, ◌∙◌, subst, append-nil, mod-eq_of_lt, arith, length-append, length-drop, length-take, length-take-le, take_at, drop_at, lt-ltb}
use lib.Seq.{take-length, drop-length}
use borrow.Rule.Slice.PartMut.{put_mid, same_len_mid}
use Rattle.sdf.specs.declared.Aabb.{Aabb}
use Rattle.vectors.specs.declared.Vec3.{Vec3}
use Rattle.bvh_rules.specs.Rules.{size, weight}
use Rattle.bvh_range.specs.declared.Span.{Span}
use Rattle.bvh_range.specs.Range.{span_of, extent_of, stops}
use Rattle.bvh_split.specs.Part.{cut_of}
use Rattle.bvh_split.proofs.Cuts.{cut_length, cut_mid}
use Rattle.bvh_build.specs.declared.Built.{Built}
use Rattle.bvh_build.specs.Build.{TreeOrder, joined, build_of}
use Rattle.bvh_build.specs.Encode.{node_words, encode, laid, low_of}
use Rattle.bvh_build.specs.Inside.Narrow.{low32}
use Rattle.bvh_build.specs.Inside.Lays.{Lays, Room}
use Rattle.bvh_build.proofs.Laid.{laid_append, laid_laid}
use Rattle.bvh_build.proofs.Fuel.{stops_at, left_part, right_part, many_go, build_leaf, build_parts}
use Rattle.bvh_build.proofs.Shape.{build_shape, encode_length}

low_same : (x : ℕ) → x ≤ 512 → low32 x ≡ x
low_same x h = rw (lt-ltb x 4294967296 (omega arith))

-- ---- a node's words, its left part's and its right part's
three : (nw : List ℕ) (i j k : ℕ) (xs ys zs : List ℕ) → i + length xs ≡ j → j + length ys ≡ k
    → laid (laid (laid nw j ys) i xs) k zs ≡ laid nw i (xs ++ (ys ++ zs))
three nw i j k xs ys zs p q =
    ap (λ (l : List ℕ). laid l k zs) (laid_laid nw i j xs ys (omega arith))
    ∙ ap (λ (n : ℕ). laid (laid (laid nw i xs) j ys) n zs) (sym q)
    ∙ sym (laid_append (laid nw i xs) j ys zs)
    ∙ ap (λ (n : ℕ). laid (laid nw i xs) n (ys ++ zs)) (sym p)
    ∙ sym (laid_append nw i xs (ys ++ zs))

module _ (nw : List ℕ) (at s levels : ℕ) (b : Aabb) (ml mr : TreeOrder) where
  lays_joined : (l r : Built) (second : ℕ) (nw₁ nw₂ nw₃ ol or : List ℕ) → Lays ml nw (at + 1) s (levels - 1) l nw₁ ol
      → nw₂ ≡ laid nw₁ (9 * at) (node_words b 0 0 l.next) → second ≡ s + weight ml.tree
      → Lays mr nw₂ l.next second (levels - 1) r nw₃ or
      → Lays (joined b ml mr) nw at s levels (record { next = r.next; low = l.low && r.low }) nw₃ (ol ++ or)
  unfolding encode low_of
  lays_joined l r second nw₁ nw₂ nw₃ ol or x e q y =
      let nl = x.next_is in
      let i : 9 * (at + 1) ≡ 9 * at + 9 = omega arith in
      let k : 9 * (at + 1) + length (encode ml.tree (at + 1) s) ≡ 9 * (at + 1 + size ml.tree)
      = omega (arith, encode_length ml.tree (at + 1) s) in
      record {
        next_is = omega (arith, x.next_is, y.next_is);
        low_is = rw (x.low_is, y.low_is);
        nodes_are =
            y.nodes_are ∙ rw (e, x.nodes_are, q, nl)
            (three nw (9 * at) (9 * (at + 1)) (9 * (at + 1 + size ml.tree)) (node_words b 0 0 (at + 1 + size ml.tree)) (encode ml.tree (at + 1) s)
            (encode mr.tree (at + 1 + size ml.tree) (s + weight ml.tree)) (sym i) k);
        order_is = rw (x.order_is, y.order_is);
      }

-- ---- what the cut gives: ps is the range after it, m the cut
pub record Cut (os ps : List ℕ) (m : ℕ) : Type 0 where
  pub some : 0 < m
  pub less : m < length os
  pub same : length ps ≡ length os
  pub taken : length (take m ps) ≡ m

-- the part after the first m, as the code takes it
abbrev rest : ℕ → List ℕ → List ℕ
rest m ys = take (length ys - m) (drop m ys)

module _ (os ps ol : List ℕ) (m : ℕ) (k : Cut os ps m) (e : length ol ≡ length (take m ps)) where
  -- the range keeps its length when its left part is back, and when its right part is back
  pub back_length : length (ol ++ drop m ps) ≡ length os
  back_length = omega (arith, length-append ol (drop m ps), length-drop m ps, k.same, k.taken, k.less)

  pub right_falls : (t : ℕ) → length os ≡ t → length (rest m (ol ++ drop m ps)) < t
  right_falls t p =
      let b = back_length in
      let ys = ol ++ drop m ps in
      omega (arith, length-take (length ys - m) (drop m ys), length-drop m ys, k.some, k.less)

  pub whole_length : (or : List ℕ) → length or ≡ length (rest m (ol ++ drop m ps))
      → length (put_mid m (length (ol ++ drop m ps) - m) (ol ++ drop m ps) or) ≡ length os
  whole_length or p = same_len_mid m (length (ol ++ drop m ps) - m) (ol ++ drop m ps) or p ∙ back_length

  -- what the code takes is the right part, and what it puts back stands after the left
  rest_is : rest m (ol ++ drop m ps) ≡ drop m ps
  rest_is =
      let lx : length (ol ++ drop m ps) - m ≡ length (drop m ps) = omega (arith, length-append ol (drop m ps), k.taken) in
      rw (drop_at ol (drop m ps) m (e ∙ k.taken), lx) (take-length (drop m ps))

  back_is : (or : List ℕ) → put_mid m (length (ol ++ drop m ps) - m) (ol ++ drop m ps) or ≡ ol ++ or
  back_is or =
      let lm = e ∙ k.taken in
      let lx : length (ol ++ drop m ps) - m ≡ length (drop m ps) = omega (arith, length-append ol (drop m ps)) in
      rw (drop_at ol (drop m ps) m lm, take_at ol (drop m ps) m lm, lx) (rw (drop-length (drop m ps)) (simp append-nil))

-- ---- one call
pub lays_none
    : (bs : List Aabb) (os nw : List ℕ) (at s levels : ℕ) (r : Built) (nw' os' : List ℕ) → 511 ≤ at → Room os at s
    → Lays (build_of bs os) nw at s levels r nw' os'
lays_none bs os nw at s levels r nw' os' h room = absurd (omega (arith, room.some, room.nodes))

module _ (bs : List Aabb) (os : List ℕ) (sp : Span) (e : Vec3) (t : Bool) (p : sp ≡ span_of bs os) (pe : e ≡ extent_of sp.centres)
    (pt : t ≡ stops (length os) e) where
  tested : (v : Bool) → t ≡ v → stops_at bs os ≡ v
  tested v q = sym (pt ∙ rw (pe, p)) ∙ q

  pub cut_known
      : (m : ℕ) (ps : List ℕ) → t ≡ false
      → (m ≡ (cut_of bs os sp.centres).mid) × (ps ≡ (cut_of bs os sp.centres).order) → Cut os ps m
  cut_known m ps q c =
      let i = cut_mid bs os sp.centres (many_go (length os) _ (tested false q)) in
      let n : length ps ≡ length os = ap length c.1 ∙ cut_length bs os sp.centres in
      record {
        some = omega (arith, c.0, i.0);
        less = omega (arith, c.0, i.1);
        same = n;
        taken = length-take-le m ps (omega (arith, c.0, i.1));
      }

  module _ (nw : List ℕ) (at s levels : ℕ) where
    pub lays_leaf
        : (w n : ℕ) (nw' : List ℕ) → t ≡ true → w ≡ low32 s → n ≡ low32 (length os)
        → nw' ≡ laid nw (9 * at) (node_words sp.hull w n 0) → Room os at s
        → Lays (build_of bs os) nw at s levels (record { next = at + 1; low = ltb 0 levels }) nw' os
    unfolding encode low_of
    lays_leaf w n nw' q ew en enw room =
        let r = ew ∙ low_same s (omega (arith, room.places)) in
        let c = en ∙ low_same (length os) (omega (arith, room.places)) in
        rw (build_leaf bs os (tested true q))
        (record { next_is = refl; low_is = refl; nodes_are = enw ∙ rw (p, r, c); order_is = refl })

    pub lays_node : (m : ℕ) (ps : List ℕ) (below : ℕ) (l : Built) (nw₁ ol : List ℕ) (right : ℕ) (nw₂ : List ℕ) (second : ℕ) (r : Built) (nw₃ or : List ℕ) (low : Bool)
        → t ≡ false → (m ≡ (cut_of bs os sp.centres).mid) × (ps ≡ (cut_of bs os sp.centres).order) → below ≡ levels - 1
        → (Room (take m ps) (at + 1) s → Lays (build_of bs (take m ps)) nw (at + 1) s below l nw₁ ol)
        → length ol ≡ length (take m ps)
        → right ≡ low32 l.next
        → nw₂ ≡ laid nw₁ (9 * at) (node_words sp.hull 0 0 right)
        → second ≡ (s + m) % 2 ^ 64
        → (Room (rest m (ol ++ drop m ps)) l.next second → Lays (build_of bs (rest m (ol ++ drop m ps))) nw₂ l.next second below r nw₃ or)
        → low ≡ l.low && r.low → Room os at s
        → Lays (build_of bs os) nw at s levels (record {
          next =
              r.next;
          low = low;
        }) nw₃ (put_mid m (length (ol ++ drop m ps) - m) (ol ++ drop m ps) or)
    lays_node m ps below l nw₁ ol right nw₂ second r nw₃ or low q c eb A len er e₂ es B el room =
        let k = cut_known m ps q c in
        let lp : take m ps ≡ left_part bs os = rw (c.0, c.1, p) in
        let rp : drop m ps ≡ right_part bs os = rw (c.0, c.1, p) in
        let z : rest m (ol ++ drop m ps) ≡ drop m ps = rest_is os ps ol m k len in
        let n : length (drop m ps) ≡ length os - m = length-drop m ps ∙ ap (λ (x : ℕ). x - m) k.same in
        let sh = build_shape bs (take m ps) in
        let big = sh.sized (omega arith) in
        let x = A (record { some = omega arith; nodes = omega arith; places = omega arith }) in
        let nl = x.next_is in
        let r₁ : right ≡ l.next = er ∙ low_same l.next (omega arith) in
        let s₁ : second ≡ s + m = es ∙ mod-eq_of_lt (omega arith) in
        let s₂ : second ≡ s + weight (build_of bs (take m ps)).tree = s₁ ∙ ap (λ (x : ℕ). s + x) (sym (sh.weighs ∙ k.taken)) in
        let y = B (rw z (record { some = omega arith; nodes = omega arith; places = omega arith })) in
        rw (build_parts bs os (tested false q), sym lp, sym rp, sym p, back_is os ps ol m k len or, el)
        (lays_joined nw at s levels sp.hull (build_of bs (take m ps)) (build_of bs (drop m ps)) l r second nw₁ nw₂ nw₃ ol or
        (subst (λ (v : ℕ). Lays (build_of bs (take m ps)) nw (at + 1) s v l nw₁ ol) eb x)
        (e₂ ∙ rw r₁)
        s₂
        (subst (λ (v : ℕ). Lays (build_of bs (drop m ps)) nw₂ l.next second v r nw₃ or) eb (rw z at y)))
