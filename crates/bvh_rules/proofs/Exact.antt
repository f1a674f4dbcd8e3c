-- The checker accepts exactly the tables that meet the tree rules, its numbers say whether depth alone is at fault, and
-- the tree that the tables hold is one. A tree has fewer levels than objects, so 256 levels are enough for all but the
-- rule of depth. Assumes nothing.
use Prim.Native.Nat.{ℕ, ◌≤◌, ◌<◌}
use mathlib.Core.Path.{◌≡◌, refl, sym, ◌∙◌, ap}
use mathlib.Core.Logic.Iff
use mathlib.Core.Logic.{◌↔◌, ◌⊎◌, inl, inr}
use mathlib.Core.Bool.{Bool, true, false, cond, true≢false, false≢true}
use mathlib.Core.List.{List}
use native.Mathlib.Decide.{dec_le}
use native.Mathlib.Omega.{arith}
use denote.Floats.{passes, is_true}
use lib.Dec.{T}
use lib.ListN.{length}
use lib.Ieee.{Float}
use Rattle.sdf.specs.declared.Aabb.{Aabb}
use Rattle.refusals.specs.Refusals.{bad_tree, too_deep, no_tree}
use Rattle.bvh_rules.specs.Rules.{Tree, size, depth, Holds, Accepted, MeetsRules}
use Rattle.bvh_rules.specs.Check.{judge_of, is_good, offered_number, standing_number}
use Rattle.bvh_rules.proofs.Level.{good_sub, judge_none}
use Rattle.bvh_rules.proofs.Trees.{weight_above, depth_weight, stands_one}
use Rattle.bvh_rules.proofs.Root.{judge_exact, good_exact}

-- ---- the numbers, by the two answers they are made of
zero_is : (a : Bool) (n : ℕ) → 0 < n → (cond a 0 n ≡ 0) ↔ (a ≡ true)
zero_is true n h = (λ _. refl, λ _. refl)
zero_is false n h = (λ e. absurd (omega arith), λ e. absurd (false≢true e))

refused_above : (b : Bool) → 0 < cond b too_deep bad_tree
refused_above true = omega arith
refused_above false = omega arith

deep_is : (a b : Bool) → (cond a 0 (cond b too_deep bad_tree) ≡ too_deep) ↔ ((a ≡ false) × (b ≡ true))
deep_is true b = (λ e. absurd (omega arith), λ p. absurd (true≢false p.0))
deep_is false true = (λ _. (refl, refl), λ _. refl)
deep_is false false = (λ e. absurd (omega arith), λ p. absurd (false≢true p.1))

bad_is : (a b : Bool) → (cond a 0 (cond b too_deep bad_tree) ≡ bad_tree) ↔ ((a ≡ false) × (b ≡ false))
bad_is true b = (λ e. absurd (omega arith), λ p. absurd (true≢false p.0))
bad_is false true = (λ e. absurd (omega arith), λ p. absurd (true≢false p.1))
bad_is false false = (λ _. (refl, refl), λ _. refl)

un_true : (a : Bool) → (a ≡ true → ⊥) → a ≡ false
un_true true h = absurd (h refl)
un_true false h = refl

module _ (w : List ℕ) (f : List Float) (o : List ℕ) (bs : List Aabb) where
  -- the tree that the tables hold is one
  pub tree_unique : (t u : Tree) → Holds w f o bs t → Holds w f o bs u → t ≡ u
  tree_unique t u h k = stands_one w f 0 0 t u h.stands k.stands

  holds_some : (t : Tree) → Holds w f o bs t → 0 < length bs
  holds_some t h = omega (arith, weight_above w f 0 0 t h.stands, h.all)

  -- the two answers
  abbrev at64 : Bool
  at64 = is_good (judge_of 64 w f o bs)

  abbrev at256 : Bool
  at256 = is_good (judge_of 256 w f o bs)

  module _ (lw : length w ≡ 4599) (few : length bs ≤ 256) where
    pub tree_exact : 0 < length bs → (is_good (judge_of 64 w f o bs) ≡ true) ↔ ((t : Tree) × Accepted w f o bs t)
    tree_exact some = (
      λ e. let p = (good_exact w f o bs lw few 64 some).0 e in
          (p.0, record { holds = p.1.0; low = omega (arith, p.1.1) }),
      λ p. (good_exact w f o bs lw few 64 some).1 (p.0, (p.1.holds, omega (arith, p.1.low))),
    )

    -- a good answer tells how many nodes and objects the tree has
    pub tree_told
        : (next end : ℕ) → 0 < length bs → judge_of 64 w f o bs ≡ good_sub next end
        → (t : Tree) × (Accepted w f o bs t × (next ≡ size t) × (end ≡ length bs))
    tree_told next end some e =
        let p = (judge_exact w f o bs lw few 64 some next end).0 e in
        (p.tree, (record { holds = p.holds; low = omega (arith, p.low) }, p.after, p.last))

    none_good : (levels : ℕ) → length bs ≡ 0 → is_good (judge_of levels w f o bs) ≡ true
    none_good levels z = ap is_good (sym (judge_none levels w f o bs (length bs) refl z))

    -- with no objects nothing is judged
    meets : (at64 ≡ true) ↔ MeetsRules w f o bs
    unfolding MeetsRules
    meets = (λ e. to e (dec_le 1 (length bs)), from)
      where
        to : at64 ≡ true → Dec (1 ≤ length bs) → (length bs ≡ 0) ⊎ ((t : Tree) × Accepted w f o bs t)
        to e (yes some) = inr ((tree_exact some).0 e)
        to e (no none) = inl (omega arith)

        from : (length bs ≡ 0) ⊎ ((t : Tree) × Accepted w f o bs t) → at64 ≡ true
        from (inl z) = none_good 64 z
        from (inr p) = (tree_exact (holds_some p.0 p.1.holds)).1 p

    pub accept_exact : T (is_good (judge_of 64 w f o bs)) ↔ MeetsRules w f o bs
    accept_exact = (λ e. meets.0 (is_true at64 e), λ m. passes at64 (meets.1 m))

    pub all_but_depth : 0 < length bs → (is_good (judge_of 256 w f o bs) ≡ true) ↔ ((t : Tree) × Holds w f o bs t)
    all_but_depth some = (λ e. let p = (good_exact w f o bs lw few 256 some).0 e in (p.0, p.1.0), from)
      where
        from : (t : Tree) × Holds w f o bs t → at256 ≡ true
        from p =
            let d = depth_weight w f 0 0 p.0 p.1.stands in
            (good_exact w f o bs lw few 256 some).1 (p.0, (p.1, omega (arith, d, p.1.all)))

    -- ---- the numbers
    some_where : (levels : ℕ) → is_good (judge_of levels w f o bs) ≡ false → 0 < length bs
    some_where levels e = go (dec_le 1 (length bs))
      where
        go : Dec (1 ≤ length bs) → 0 < length bs
        go (yes some) = some
        go (no none) = absurd (true≢false (sym (none_good levels (omega arith)) ∙ e))

    pub offered_exact : (offered_number w f o bs ≡ 0) ↔ MeetsRules w f o bs
    unfolding offered_number
    offered_exact = Iff.trans (zero_is at64 (cond at256 too_deep bad_tree) (refused_above at256)) meets

    -- the one tree that stands there is too deep
    too_deep_lem : (t : Tree) → Holds w f o bs t → 63 < depth t → at64 ≡ true → ⊥
    too_deep_lem t h d e =
        let p = (tree_exact (holds_some t h)).0 e in
        let q : depth p.0 ≡ depth t = ap depth (tree_unique p.0 t p.1.holds h) in
        omega (arith, p.1.low)

    deep_to : at64 ≡ false → at256 ≡ true → (t : Tree) × (Holds w f o bs t × (63 < depth t))
    deep_to e g =
        let some = some_where 64 e in
        let p = (all_but_depth some).0 g in
        (p.0, (p.1, go some p.0 p.1 (dec_le (depth p.0) 63)))
      where
        go : 0 < length bs → (t : Tree) → Holds w f o bs t → Dec (depth t ≤ 63) → 63 < depth t
        go some t h (yes l) = absurd (true≢false (sym ((tree_exact some).1 (t, record { holds = h; low = l })) ∙ e))
        go some t h (no l) = omega arith

    pub offered_deep : (offered_number w f o bs ≡ too_deep) ↔ ((t : Tree) × (Holds w f o bs t × (63 < depth t)))
    unfolding offered_number
    offered_deep =
        Iff.trans (deep_is at64 at256) (
          λ p. deep_to p.0 p.1,
          λ p. (
            un_true at64 (too_deep_lem p.0 p.1.0 p.1.1),
            (all_but_depth (holds_some p.0 p.1.0)).1 (p.0, p.1.0),
          ),
        )

    pub offered_bad
        : (offered_number w f o bs ≡ bad_tree) ↔ ((0 < length bs) × ((t : Tree) → Holds w f o bs t → ⊥))
    unfolding offered_number
    offered_bad =
        Iff.trans (bad_is at64 at256) (
          λ p. (
            some_where 64 p.0,
            λ t h. true≢false (sym ((all_but_depth (some_where 64 p.0)).1 (t, h)) ∙ p.1),
          ),
          λ p. (
            un_true at64 (λ e. let q = (tree_exact p.0).0 e in p.1 q.0 q.1.holds),
            un_true at256 (λ e. let q = (all_but_depth p.0).0 e in p.1 q.0 q.1),
          ),
        )

    pub standing_exact : (standing_number w f o bs ≡ 0) ↔ MeetsRules w f o bs
    unfolding standing_number
    standing_exact = Iff.trans (zero_is at64 no_tree (omega arith)) meets

    pub standing_none : (standing_number w f o bs ≡ no_tree) ↔ (MeetsRules w f o bs → ⊥)
    unfolding standing_number
    standing_none = (
      λ e m. let q = standing_exact.1 m in omega arith,
      λ h. rw (un_true at64 (λ e. h (meets.0 e))),
    )
