-- The code's search comes to the definition's: each pop of the code is one turn of `run_of`. By an invariant: what is
-- still to run, from the node in hand and the stack, is the whole run. Assumes nothing.
use Rattle.std.proofs.Common.{◌≡◌, ℕ, zero, suc, ◌+◌, ◌-◌, ◌*◌, ◌%◌, ◌^◌, ◌<◌, ◌≤◌, Bool, true, false, cond, eqb, ltb, List, [], ◌∷◌, length, get_or, set, sym, refl, ap, ◌∙◌, subst, add-zero, mod-eq_of_lt, arith, length-set, get_or-set_other, get_or-set_same, ltb-false, eqb-true}
use lib.Ieee.{Float, lt, le}
use borrow.Author.Tests.{eqb-false}
use Rattle.root.specs.Root.{root_of}
use Rattle.vectors.specs.declared.Vec3.{Vec3}
use Rattle.vectors.specs.Vec.{vlength}
use Rattle.sdf.specs.Boxes.{box_dist}
use Rattle.plan.specs.declared.DistHit.{DistHit}
use Rattle.bvh_rules.specs.declared.Node.{Node}
use Rattle.bvh_rules.specs.Nodes.{node_at}
use Rattle.bvh_search.specs.declared.Searched.{Searched}
use Rattle.bvh_search.specs.declared.Standing.{Standing}
use Rattle.bvh_search.specs.declared.Standing.TheVariants.{Going, Ended, Full}
use Rattle.bvh_search.specs.declared.State.{State}
use Rattle.bvh_search.specs.declared.Waiting.{Waiting}
use Rattle.bvh_search.specs.Search.{Turn, on, full, searched, leaf_scan, places_of, node_dist, pushed, turn_of, run_of}
use Rattle.bvh_search.specs.Inside.Machine.{
  Tables,
  tables,
  nobody,
  keyed,
  box_square,
  ended,
  popping,
  scanned,
  next_of,
  two_of,
  square_at,
  children_of,
  scanned_of,
  opened_of,
  step_of,
}
use Rattle.root_tests.specs.Inside.Tests.{far_off, left_first, limit_of}
use Rattle.bvh_search.proofs.Leaves.{places_few}
use Rattle.bvh_search.proofs.Stack.{waiting, length_waiting, waiting_pop, waiting_push}

-- the ways of standing differ
abbrev rank : Standing → ℕ
rank Going = 0
rank Ended = 1
rank Full = 2

-- what holds of both sides of a test
either : {A : Type 0} (P : A → Type 0) (b : Bool) (x y : A) → (b ≡ true → P x) → (b ≡ false → P y) → P (cond b x y)
either P true x y f g = f refl
either P false x y f g = g refl

module _ (nw : List ℕ) (nf : List Float) (o : List ℕ) (w : List ℕ) (f : List Float) (p : Vec3) where
  -- a box distance is the root of the square held
  pub dist_is : (a : ℕ) → node_dist nw nf o w f p a ≡ root_of (square_at nw nf p a)
  unfolding node_dist box_dist vlength square_at box_square
  dist_is a = refl

  run_none : (fuel : ℕ) (b : DistHit) (k e : ℕ) → run_of nw nf o w f p fuel [] b k e ≡ searched b k e true
  unfolding run_of
  run_none zero b k e = refl
  run_none (suc fuel) b k e = refl

  run_spent
      : (a : ℕ) (rest : List ℕ) (b : DistHit) (k e : ℕ) → run_of nw nf o w f p 0 (a ∷ rest) b k e ≡ searched b k e false
  unfolding run_of
  run_spent a rest b k e = refl

  run_on
      : (fuel a : ℕ) (rest : List ℕ) (b : DistHit) (k e : ℕ) (l : List ℕ) (h : DistHit) (c : ℕ)
      → turn_of nw nf o w f p a rest b ≡ on l h c
      → run_of nw nf o w f p (suc fuel) (a ∷ rest) b k e ≡ run_of nw nf o w f p fuel l h (k + 1) (e + c)
  unfolding run_of
  run_on fuel a rest b k e l h c t = rw t

  run_full : (fuel a : ℕ) (rest : List ℕ) (b : DistHit) (k e : ℕ) → turn_of nw nf o w f p a rest b ≡ full →
      run_of nw nf o w f p (suc fuel) (a ∷ rest) b k e ≡ searched b (k + 1) e false
  unfolding run_of
  run_full fuel a rest b k e t = rw t

  module _ (all : Searched) where
    -- the tables and the counts; the run with nothing in hand; the run with a node in hand
    pub record Waits (stack : List Waiting) (s : State) : Type 0 where
      pub long : length stack ≡ 64
      pub room : s.sp ≤ 63
      pub small : s.evaluated ≤ 256 * s.popped
      pub going : s.standing ≡ Going
      pub limit : s.lim ≡ limit_of s.hit.d
      pub held : (k : ℕ) → k < s.sp → (get_or stack k nobody).key ≡ square_at nw nf p (get_or stack k nobody).at

    pub record Idle (stack : List Waiting) (s : State) : Type 0 where
      pub waits : Waits stack s
      pub run : run_of nw nf o w f p (511 - s.popped) (waiting stack s.sp) s.hit s.popped s.evaluated ≡ all

    pub record Busy (stack : List Waiting) (s : State) : Type 0 where
      pub waits : Waits stack s
      pub key : s.key ≡ square_at nw nf p s.at
      pub run : run_of nw nf o w f p (511 - s.popped) (s.at ∷ waiting stack s.sp) s.hit s.popped s.evaluated ≡ all

    -- after a pop, with k popped: a node in hand again, or the end
    pub record After (k : ℕ) (t : Tables) : Type 0 where
      pub pops : t.state.popped ≡ k
      pub on : t.state.standing ≡ Going → Busy t.stack t.state
      pub over : t.state.standing ≡ Ended → searched t.state.hit t.state.popped t.state.evaluated true ≡ all
      pub cut : t.state.standing ≡ Full → searched t.state.hit t.state.popped t.state.evaluated false ≡ all

    -- a state that goes on is neither
    not_over : (s : Standing) → s ≡ Going → s ≡ Ended → ⊥
    not_over s g e = let z : rank Going ≡ rank Ended = ap rank (sym g ∙ e) in omega arith

    not_cut : (s : Standing) → s ≡ Going → s ≡ Full → ⊥
    not_cut s g e = let z : rank Going ≡ rank Full = ap rank (sym g ∙ e) in omega arith

    -- the next waiting node in hand, or the end of a run with none
    next_law
        : (stack : List Waiting) (s : State) → Idle stack s
        → After s.popped (tables stack (next_of stack s))
    unfolding next_of
    next_law stack s i =
        let W = i.waits in
        either (λ (x : State). After s.popped (tables stack x)) (eqb s.sp 0) (ended s Ended) _
        (λ e.
        let z : s.sp ≡ 0 = eqb-true s.sp 0 e in
        record {
          pops = refl;
          on = λ h. absurd (not_over Ended h refl);
          over = λ h. sym (run_none (511 - s.popped) s.hit s.popped s.evaluated) ∙
              ap (λ (k : ℕ). run_of nw nf o w f p (511 - s.popped) (waiting stack k) s.hit s.popped s.evaluated) (sym z) ∙ i.run;
          cut = λ h. let n : rank Ended ≡ rank Full = ap rank h in absurd (omega arith);
        })
        (λ e.
        let h : 0 < s.sp = omega (arith, eqb-false s.sp 0 e) in
        record {
          pops = refl;
          on = λ _. record {
            waits = record {
              long = W.long;
              room = omega (arith, W.room);
              small = W.small;
              going = W.going;
              limit = W.limit;
              held = λ k l. W.held k (omega arith);
            };
            key = W.held (s.sp - 1) (omega arith);
            run = rw (← (waiting_pop stack s.sp h)) i.run;
          };
          over = λ l. absurd (not_over s.standing W.going l);
          cut = λ l. absurd (not_cut s.standing W.going l);
        })

    -- the budget spent
    pub ran_out
        : (stack : List Waiting) (s : State) → Busy stack s → 511 ≤ s.popped
        → searched s.hit s.popped s.evaluated false ≡ all
    ran_out stack s i h =
        let z : 511 - s.popped ≡ 0 = omega arith in
        sym (run_spent s.at (waiting stack s.sp) s.hit s.popped s.evaluated) ∙
        ap (λ (k : ℕ). run_of nw nf o w f p k (s.at ∷ waiting stack s.sp) s.hit s.popped s.evaluated) (sym z) ∙ i.run

    module _ (stack : List Waiting) (s : State) (i : Busy stack s) (few : s.popped < 511) where
      abbrev rest : List ℕ
      rest = waiting stack s.sp

      abbrev turn : Turn
      turn = turn_of nw nf o w f p s.at rest s.hit

      abbrev v : Node
      v = node_at nw nf s.at

      fuelled : run_of nw nf o w f p (suc (511 - (s.popped + 1))) (s.at ∷ rest) s.hit s.popped s.evaluated ≡ all
      fuelled =
          let e : suc (511 - (s.popped + 1)) ≡ 511 - s.popped = omega arith in
          rw e i.run

      turned
          : (l : List ℕ) (h : DistHit) (c : ℕ) → turn ≡ on l h c
          → run_of nw nf o w f p (511 - (s.popped + 1)) l h (s.popped + 1) (s.evaluated + c) ≡ all
      turned l h c t =
          sym (run_on (511 - (s.popped + 1)) s.at rest s.hit s.popped s.evaluated l h c t) ∙ fuelled

      pops : (s.popped + 1) % 2 ^ 32 ≡ s.popped + 1
      pops = mod-eq_of_lt (omega arith)

      evals : (c : ℕ) → c ≤ 256 → (s.evaluated + c) % 2 ^ 32 ≡ s.evaluated + c
      evals c h = mod-eq_of_lt (omega (arith, i.waits.small))

      -- a state x after the pop, with c objects more evaluated
      module _ (x : State) (c : ℕ) (ec : c ≤ 256) (es : x.sp ≡ s.sp) (ek : x.popped ≡ s.popped + 1)
          (ee : x.evaluated ≡ s.evaluated + c) (ed : x.standing ≡ s.standing) (el : x.lim ≡ limit_of x.hit.d) where
        waited : Waits stack x
        waited =
            let W = i.waits in
            record {
              long = W.long;
              room = omega (arith, W.room);
              small = omega (arith, W.small);
              going = ed ∙ W.going;
              limit = el;
              held = λ k l. W.held k (omega arith);
            }

        idle : turn ≡ on rest x.hit c → Idle stack x
        idle t = record { waits = waited; run = rw (es, ek, ee) (turned rest x.hit c t) }

      near : (b : Bool) → far_off s.key s.hit.d ≡ b → le s.hit.d (node_dist nw nf o w f p s.at) ≡ b
      unfolding far_off
      near b e = rw (dist_is s.at, ← i.key) e

      abbrev Popped : Tables → Type 0
      Popped = After (s.popped + 1)

      nexted
          : (x : State) → x.popped ≡ s.popped + 1 → Idle stack x
          → Popped (tables stack (next_of stack x))
      nexted x e j = subst (λ (k : ℕ). After k (tables stack (next_of stack x))) e (next_law stack x j)

      skipped : far_off s.key s.hit.d ≡ true → Popped (tables stack (next_of stack (popping s)))
      unfolding turn_of
      skipped e =
          nexted (popping s) pops
          (idle (popping s) 0 (omega arith) refl pops (sym (add-zero s.evaluated)) refl i.waits.limit
          (rw (near true e)))

      module _ (e : far_off s.key s.hit.d ≡ false) where
        past : ltb s.at 511 ≡ false → Popped (tables stack (next_of stack (popping s)))
        unfolding turn_of
        past g =
            nexted (popping s) pops
            (idle (popping s) 0 (omega arith) refl pops (sym (add-zero s.evaluated)) refl i.waits.limit
            (rw (near false e, g)))

        module _ (g : ltb s.at 511 ≡ true) where
          leafed : eqb v.count 0 ≡ false → Popped (tables stack (scanned_of o w f p stack (popping s) v))
          unfolding turn_of scanned_of
          leafed z =
              let x : State = scanned (popping s) (leaf_scan w f o p v.start (places_of v) s.hit) in
              nexted x pops
              (idle x (places_of v) (places_few v) refl pops (evals (places_of v) (places_few v)) refl refl
              (rw (near false e, g, z)))

          module _ (z : eqb v.count 0 ≡ true) where
            abbrev l : ℕ
            l = s.at + 1

            abbrev r : ℕ
            r = v.right

            filled : ltb 62 s.sp ≡ true → Popped (tables stack (ended (popping s) Full))
            unfolding turn_of
            filled m =
                let t : turn ≡ full = rw (near false e, g, z, length_waiting stack s.sp, m) in
                record {
                  pops = pops;
                  on = λ h. absurd (not_cut Full h refl);
                  over = λ h. let n : rank Full ≡ rank Ended = ap rank h in absurd (omega arith);
                  cut = λ h. rw pops (sym (run_full (511 - (s.popped + 1)) s.at rest s.hit s.popped s.evaluated t) ∙ fuelled);
                }

            kept
                : (a k : ℕ) → k < s.sp + 1
                → (get_or (set stack s.sp (keyed nw nf p a)) k nobody).key
                ≡ square_at nw nf p (get_or (set stack s.sp (keyed nw nf p a)) k nobody).at
            kept a k h = go (eqb k s.sp) refl
              where
                go
                    : (b : Bool) → eqb k s.sp ≡ b
                    → (get_or (set stack s.sp (keyed nw nf p a)) k nobody).key
                    ≡ square_at nw nf p (get_or (set stack s.sp (keyed nw nf p a)) k nobody).at
                go true q =
                    rw (
                      eqb-true k s.sp q,
                      get_or-set_same stack s.sp (keyed nw nf p a) nobody (omega (arith, i.waits.long, i.waits.room)),
                    )
                go false q =
                    let ne : k ≡ s.sp → ⊥ = eqb-false k s.sp q in
                    rw (get_or-set_other stack s.sp k (keyed nw nf p a) nobody ne) (i.waits.held k (omega arith))

            -- a waits, b in hand
            two : (a b : ℕ) → s.sp ≤ 62 → turn ≡ on (b ∷ a ∷ rest) s.hit 0 →
                Popped (two_of stack (popping s) (keyed nw nf p a) (keyed nw nf p b))
            two a b m t =
                let W = i.waits in
                record {
                  pops = pops;
                  on = λ _. record {
                    waits = record {
                      long = simp length-set W.long;
                      room = omega arith;
                      small = rw pops (omega (arith, W.small));
                      going = W.going;
                      limit = W.limit;
                      held = kept a;
                    };
                    key = refl;
                    run = rw (pops, waiting_push stack (keyed nw nf p a) s.sp (omega (arith, W.long)), ← (add-zero s.evaluated)) (turned (b ∷ a ∷ rest) s.hit 0 t);
                  };
                  over = λ l. absurd (not_over s.standing W.going l);
                  cut = λ l. absurd (not_cut s.standing W.going l);
                }

            order
                : (b : Bool) → left_first (square_at nw nf p l) (square_at nw nf p r) ≡ b
                → lt (node_dist nw nf o w f p l) (node_dist nw nf o w f p r) ≡ b
            unfolding left_first
            order b q = rw (dist_is l, dist_is r) q

            both : Popped (children_of nw nf p stack (popping s) l r)
            unfolding children_of turn_of pushed
            both =
                either Popped (ltb 62 s.sp) _ _ filled
                (λ m.
                let k : s.sp ≤ 62 = ltb-false 62 s.sp m in
                either Popped (left_first (square_at nw nf p l) (square_at nw nf p r)) _ _
                (λ q. two r l k (rw (near false e, g, z, length_waiting stack s.sp, m, order true q)))
                (λ q. two l r k (rw (near false e, g, z, length_waiting stack s.sp, m, order false q))))

      opened_law : far_off s.key s.hit.d ≡ false → Popped (opened_of nw nf o w f p stack (popping s) v)
      unfolding opened_of
      opened_law e =
          either Popped (ltb s.at 511) _ _
          (λ g. either Popped (eqb v.count 0) _ _ (both e g) (leafed e g))
          (past e)

      stepped : Popped (step_of nw nf o w f p stack s)
      unfolding step_of
      stepped = either Popped (far_off s.key s.hit.d) _ _ skipped opened_law

      pub step_law : (t : Tables) → t ≡ step_of nw nf o w f p stack s → After (s.popped + 1) t
      step_law t e = subst Popped (sym e) stepped
