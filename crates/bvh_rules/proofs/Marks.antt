-- The order table is good exactly when it holds each object once: what is still to be marked is fresh. By induction on
-- how many places are left. Assumes nothing.
use Prim.Native.Nat.{ℕ, zero, suc, ◌+◌, ◌≤◌, ◌<◌}
use mathlib.Core.Path.{◌≡◌, refl, sym, ◌∙◌, ap}
use mathlib.Core.Logic.{◌↔◌, ⊎_elim}
use mathlib.Core.Bool.{Bool, true, false, cond, true≢false, false≢true}
use mathlib.Core.List.{List}
use native.Mathlib.Nat.{eq-or-lt_of_le, sub-zero}
use native.Mathlib.Omega.{arith}
use lib.Dec.{ltb}
use lib.ListN.{length, get_or, set, replicate, length-set, length-replicate, get_or-replicate}
use lib.Seq.{get_or-set_same, get_or-set_other}
use borrow.Author.Tests.{lt-ltb, ltb-true}
use Rattle.plan.specs.Records.{word_of}
use Rattle.bvh_rules.specs.Inside.Steps.{marks_of, order_ok}
use Rattle.bvh_rules.specs.Rules.{Once}
use Rattle.bvh_rules.proofs.Lists.{order_few}
use Rattle.bvh_rules.proofs.Level.{cond_true}

cond_false : (a b : Bool) → cond a false b ≡ true → (a ≡ false) × (b ≡ true)
cond_false true b e = absurd (false≢true e)
cond_false false b e = (refl, e)

-- a place that is not marked after x was is not x
other
    : (seen : List Bool) (x y : ℕ) → x < length seen → get_or (set seen x true) y false ≡ false → y ≡ x
    → ⊥
other seen x y h e g =
    true≢false (sym (get_or-set_same seen x true false h) ∙ ap (λ (k : ℕ). get_or (set seen x true) k false)
    (sym g) ∙ e)

module _ (o : List ℕ) (n : ℕ) where
  -- k places from i on: each below n, no two the same, none seen
  record Fresh (k i : ℕ) (seen : List Bool) : Type 0 where
    below : (j : ℕ) → i ≤ j → j < i + k → word_of o j < n
    apart : (j m : ℕ) → i ≤ j → j < m → m < i + k → word_of o j ≡ word_of o m → ⊥
    unseen : (j : ℕ) → i ≤ j → j < i + k → get_or seen (word_of o j) false ≡ false

  -- one place more at the front
  module _ (k i : ℕ) (seen : List Bool) where
    fresh_more
        : n ≤ length seen → word_of o i < n → get_or seen (word_of o i) false ≡ false
        → Fresh k (i + 1) (set seen (word_of o i) true) → Fresh (suc k) i seen
    fresh_more l x s q =
        let new : (j : ℕ) → i < j → j < i + suc k → word_of o j ≡ word_of o i → ⊥
        = λ j g h. other seen (word_of o i) (word_of o j) (omega arith) (q.unseen j (omega arith) (omega arith)) in
        record {
          below =
              λ j g h. ⊎_elim (λ e. at_place e x) (λ e. q.below j (omega arith) (omega arith)) (eq-or-lt_of_le g);
          apart =
              λ j m g d h e. ⊎_elim (λ p. new m (omega arith) h (sym e ∙ ap (word_of o) (sym p)))
              (λ p. q.apart j m (omega arith) d (omega arith) e) (eq-or-lt_of_le g);
          unseen = λ j g h.
              ⊎_elim (λ e. ap (λ (p : ℕ). get_or seen (word_of o p) false) (sym e) ∙ s)
              (λ e. sym (get_or-set_other seen (word_of o i) (word_of o j) true false (new j e h)) ∙ q.unseen j
              (omega arith) (omega arith))
              (eq-or-lt_of_le g);
        }
      where
        at_place : {j : ℕ} → i ≡ j → word_of o i < n → word_of o j < n
        at_place {j} e h = let d : word_of o i ≡ word_of o j = ap (word_of o) e in omega arith

    fresh_less : Fresh (suc k) i seen → Fresh k (i + 1) (set seen (word_of o i) true)
    fresh_less q =
        record {
          below = λ j g h. q.below j (omega arith) (omega arith);
          apart = λ j m g d h. q.apart j m (omega arith) d (omega arith);
          unseen = λ j g h.
              let ne : word_of o j ≡ word_of o i → ⊥ = λ e. q.apart i j (omega arith) (omega arith)
              (omega arith) (sym e) in
              get_or-set_other seen (word_of o i) (word_of o j) true false ne ∙ q.unseen j (omega arith) (omega arith);
        }

  fresh : (k i : ℕ) (seen : List Bool) → n ≤ length seen → marks_of o n k i seen ≡ true → Fresh k i seen
  unfolding marks_of
  fresh zero i seen l e =
      record {
        below = λ j g h.
            absurd (omega arith);
        apart = λ j m g d h. absurd (omega arith);
        unseen = λ j g h. absurd (omega arith);
      }
  fresh (suc k) i seen l e =
      let x : ℕ = word_of o i in
      let a = cond_true (ltb x n) (cond (get_or seen x false) false (marks_of o n k (i + 1) (set seen x true))) e in
      let b = cond_false (get_or seen x false) (marks_of o n k (i + 1) (set seen x true)) a.1 in
      fresh_more k i seen l (ltb-true x n a.0) b.0 (fresh k (i + 1) (set seen x true) (simp length-set l) b.1)

  marked : (k i : ℕ) (seen : List Bool) → Fresh k i seen → marks_of o n k i seen ≡ true
  unfolding marks_of
  marked zero i seen q = refl
  marked (suc k) i seen q =
      let x = lt-ltb (word_of o i) n (q.below i (omega arith) (omega arith)) in
      simp (x, q.unseen i (omega arith) (omega arith))
      (marked k (i + 1) (set seen (word_of o i) true) (fresh_less k i seen q))

  pub order_exact : n ≤ 256 → (order_ok o n ≡ true) ↔ Once o n
  order_exact h = (to, from)
    where
      marks : order_ok o n ≡ marks_of o n n 0 (replicate 256 false)
      marks = order_few o n h ∙ ap (λ (k : ℕ). marks_of o n k 0 (replicate 256 false)) (sub-zero n)

      to : order_ok o n ≡ true → Once o n
      to e =
          let q = fresh n 0 (replicate 256 false) (rw (length-replicate 256 false) h) (sym marks ∙ e) in
          record {
            below = λ i g. q.below i (omega arith) (omega arith);
            apart = λ i j g k. q.apart i j
                (omega arith) g (omega arith);
          }

      from : Once o n → order_ok o n ≡ true
      from q =
          let seen : (i : ℕ) → i < n → get_or (replicate 256 false) (word_of o i) false ≡ false
          = λ i g. get_or-replicate 256 (word_of o i) false false (omega (arith, q.below i g)) in
          marks ∙ marked n 0 (replicate 256 false) (record {
            below = λ i g k. q.below i (omega arith);
            apart = λ i j g k d. q.apart i j k (omega arith);
            unseen = λ i g k. seen i (omega arith);
          })
