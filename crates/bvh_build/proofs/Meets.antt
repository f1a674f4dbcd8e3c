-- Whatever the builder builds meets every tree rule but perhaps depth, and its answer tells whether it meets that one.
-- By the laws of its words, its boxes and its order. Assumes nothing.
use Rattle.std.proofs.Common.{◌≡◌, ℕ, ◌<◌, ◌≤◌, Bool, true, false, cond, T, eqb, ltb, ◌⊎◌, List, length, replicate, sym, refl, ◌∙◌, inl, inr, true≢false, arith, ltb-false, ltb-true, eq-eqb, ne_eqb}
use native.Mathlib.Decide.{dec_le}
use lib.ListN.{length-replicate}
use lib.Ieee.{Float}
use Rattle.sdf.specs.declared.Aabb.{Aabb}
use Rattle.words.specs.Words.{floats_of}
use Rattle.words.proofs.Runs.{length_from}
use Rattle.plan.specs.Plan.{Plan}
use Rattle.plan_test.specs.Exact.{SoundObjects}
use Rattle.bvh_boxes.specs.Boxes.{finite_box, boxes_of, box_at}
use Rattle.bvh_boxes.proofs.Lists.{boxes_length}
use Rattle.bvh_rules.specs.Rules.{Tree, size, depth, Holds, Accepted, MeetsRules, place}
use Rattle.bvh_rules.specs.Check.{standing_number}
use Rattle.bvh_rules.proofs.Exact.{standing_exact}
use Rattle.bvh_split.proofs.Perms.{Each, perm_length}
use Rattle.bvh_build.specs.Encode.{encode, laid}
use Rattle.bvh_build.specs.Tables.{built_of, size_of, low_enough, nodes_with, order_with}
use Rattle.bvh_build.proofs.Laid.{length_laid}
use Rattle.bvh_build.proofs.Shape.{Shape, build_shape, encode_length, low_depth}
use Rattle.bvh_build.proofs.Stands.{reads_laid, FitBox, stands_here}
use Rattle.bvh_build.proofs.Fitting.{boxes_fit}
use Rattle.bvh_build.proofs.Sound.{boxes_finite}
use Rattle.bvh_build.proofs.Boxed.{Tight, build_tight}
use Rattle.bvh_build.proofs.Once.{numbers, number_at, once_by}

abbrev zeros : ℕ → List ℕ
zeros n = replicate n 0

length_zeros : (n : ℕ) → length (zeros n) ≡ n
length_zeros n = length-replicate {A = ℕ} n 0

-- ---- with no objects, and with some
module _ (a : Plan) where
  low_none : length a.objects ≡ 0 → low_enough a ≡ true
  unfolding low_enough
  low_none e = rw (eq-eqb (length a.objects) 0 e)

  low_some : 0 < length a.objects → low_enough a ≡ ltb (depth (built_of a).tree) 64
  unfolding low_enough
  low_some h = rw (ne_eqb (length a.objects) 0 (λ e. omega arith)) (low_depth (built_of a).tree 64)

  length_nodes : (nodes : List ℕ) → length (nodes_with a nodes) ≡ length nodes
  unfolding nodes_with
  length_nodes nodes = either (eqb (length a.objects) 0)
    where
      either : (b : Bool) → length (cond b nodes (laid nodes 0 (encode (built_of a).tree 0 0))) ≡ length nodes
      either true = refl
      either false = length_laid nodes 0 (encode (built_of a).tree 0 0)

  -- ---- the tree of a plan's objects
  numbers_all
      : (P : Aabb → Type 0) → ((o : ℕ) → o < length a.objects → P (box_at (boxes_of a) o))
      → Each (λ o. P (box_at (boxes_of a) o)) (numbers (length a.objects))
  numbers_all P h i l =
      let k : i < length a.objects = omega (arith, length_from place 0 (length a.objects)) in
      rw (number_at (length a.objects) i k) (h i k)

  built_shape : Shape (numbers (length a.objects)) (built_of a)
  unfolding built_of
  built_shape = build_shape (boxes_of a) (numbers (length a.objects))

  built_tight : Tight (boxes_of a) (numbers (length a.objects)) (built_of a)
  unfolding built_of
  built_tight = build_tight (boxes_of a) (numbers (length a.objects))

  box_fits : (o : ℕ) → o < length a.objects → FitBox (box_at (boxes_of a) o)
  unfolding boxes_of
  box_fits = boxes_fit a.objects

  -- ---- in tables of any words
  module _ (s : SoundObjects a) (nodes order : List ℕ) (ln : length nodes ≡ 4599) (lo : length order ≡ 256)
      (some : 0 < length a.objects) where
    abbrev W : List ℕ
    W = nodes_with a nodes

    holds_over : Holds W (floats_of W 4599) (order_with a order) (boxes_of a) (built_of a).tree
    unfolding nodes_with order_with
    holds_over =
        let n : ℕ = length a.objects in
        let few : n ≤ 256 = s.counts.objects in
        let k = length_from place 0 n in
        let c = boxes_length a in
        let t = (built_of a).tree in
        let os = (built_of a).order in
        let z = built_shape.sized (omega arith) in
        let reads = reads_laid order 0 os (omega (arith, perm_length built_shape.once)) in
        let fit = built_tight.fit (numbers_all FitBox box_fits) in
        let finite = numbers_all (λ b. T (finite_box b)) (boxes_finite a s) in
        rw (ne_eqb n 0 (λ e. omega arith)) (record {
          stands =
              stands_here (laid nodes 0 (encode t 0 0)) 4599 t 0 0 (omega arith) (built_shape.filled (omega arith)) fit
              (reads_laid nodes 0 (encode t 0 0) (omega (arith, encode_length t 0 0)));
          all = omega (arith, built_shape.weighs);
          once = rw c (once_by n os (laid order 0 os) built_shape.once reads);
          boxed = built_tight.boxed finite (laid order 0 os) 0 reads;
        })

  -- ---- in tables of zeros
  abbrev pub nodes_built : List ℕ
  nodes_built = nodes_with a (replicate 4599 0)

  abbrev pub floats_built : List Float
  floats_built = floats_of nodes_built 4599

  abbrev pub order_built : List ℕ
  order_built = order_with a (replicate 256 0)

  module _ (s : SoundObjects a) where
    pub built_holds : 0 < length a.objects → Holds nodes_built floats_built order_built (boxes_of a) (built_of a).tree
    built_holds = holds_over s (zeros 4599) (zeros 256) (length_zeros 4599) (length_zeros 256)

    pub built_low : low_enough a ≡ true → MeetsRules nodes_built floats_built order_built (boxes_of a)
    unfolding MeetsRules
    built_low e = go (dec_le 1 (length a.objects))
      where
        go
            : Dec (1 ≤ length a.objects)
            → (length (boxes_of a) ≡ 0) ⊎ ((t : Tree) × Accepted nodes_built floats_built order_built (boxes_of a) t)
        go (no none) = inl (omega (arith, boxes_length a))
        go (yes some) =
            let d = ltb-true (depth (built_of a).tree) 64 (sym (low_some some) ∙ e) in
            inr ((built_of a).tree, record { holds = built_holds some; low = omega arith })

    pub built_standing : low_enough a ≡ true → standing_number nodes_built floats_built order_built (boxes_of a) ≡ 0
    built_standing e =
        let n = length_nodes (zeros 4599) ∙ length_zeros 4599 in
        let few : length (boxes_of a) ≤ 256 = omega (arith, boxes_length a, s.counts.objects) in
        (standing_exact nodes_built floats_built order_built (boxes_of a) n few).1 (built_low e)

    -- turned down for depth only
    pub built_deep
        : low_enough a ≡ false
        → Holds nodes_built floats_built order_built (boxes_of a) (built_of a).tree × (63 < depth (built_of a).tree)
    built_deep e = go (dec_le 1 (length a.objects))
      where
        go
            : Dec (1 ≤ length a.objects)
            → Holds nodes_built floats_built order_built (boxes_of a) (built_of a).tree × (63 < depth (built_of a).tree)
        go (no none) = absurd (true≢false (sym (low_none (omega arith)) ∙ e))
        go (yes some) =
            let d = ltb-false (depth (built_of a).tree) 64 (sym (low_some some) ∙ e) in
            (built_holds some, omega arith)

  pub built_size : length a.objects ≤ 256 → size_of a ≤ 511
  unfolding size_of
  built_size few = go (dec_le 1 (length a.objects))
    where
      go : Dec (1 ≤ length a.objects) → cond (eqb (length a.objects) 0) 0 (size (built_of a).tree) ≤ 511
      go (no none) = rw (eq-eqb (length a.objects) 0 (omega arith)) (omega arith)
      go (yes some) =
          let k = length_from place 0 (length a.objects) in
          rw (ne_eqb (length a.objects) 0 (λ e. omega arith)) (omega (arith, built_shape.sized (omega arith)))
