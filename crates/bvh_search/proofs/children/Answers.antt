-- `bvh_search::children` meets its contract: a return for each case; squares are cast, as they are numbers. Assumes
-- nothing.
use Rattle.std.proofs.Common.{sym, refl, ap, le-ltb, lt-ltb}
use Rattle.bvh_search.specs.declared.Pair.{Pair}
use Rattle.bvh_search.specs.Inside.Machine.{children_of}
use Rattle.bvh_search.proofs.Plus.{key_plus, key_wide}
use Rattle.bvh_search.proofs.children.Goals as goal

pub returns-then-s-gt-WAIT_MOST : goal.returns-then-s-gt-WAIT_MOST
unfolding children_of
returns-then-s-gt-WAIT_MOST c = rw (lt-ltb 62 _ c.if-s-gt-WAIT_MOST.true) (cc)

pub float_to_float-kl : goal.float_to_float-kl
float_to_float-kl c = rw (ap (λ (k : Pair). k.l) c.squares-k.ensures) (key_wide _ _ _ _)

pub float_to_float-kr : goal.float_to_float-kr
float_to_float-kr c = rw (ap (λ (k : Pair). k.r) c.squares-k.ensures) (key_wide _ _ _ _)

pub returns-then-left_first : goal.returns-then-left_first
unfolding children_of
returns-then-left_first c =
    let k = c in
    let el = ap (λ (k : Pair). k.l) k.squares-k.ensures in
    let er = ap (λ (k : Pair). k.r) k.squares-k.ensures in
    rw (
      le-ltb 62 _ k.if-s-gt-WAIT_MOST.false,
      sym el,
      sym er,
      sym (c.left_first.ensures refl refl (rw el (key_plus _ _ _ _)) (rw er (key_plus _ _ _ _))),
      c.if-left_first.true,
    )
    (rw (c.holding.ensures, c.wait.ensures))

pub returns : goal.returns
unfolding children_of
returns c =
    let k = c in
    let el = ap (λ (k : Pair). k.l) k.squares-k.ensures in
    let er = ap (λ (k : Pair). k.r) k.squares-k.ensures in
    rw (
      le-ltb 62 _ k.if-s-gt-WAIT_MOST.false,
      sym el,
      sym er,
      sym (c.left_first.ensures refl refl (rw el (key_plus _ _ _ _)) (rw er (key_plus _ _ _ _))),
      c.if-left_first.false,
    )
    (rw (c.holding-2.ensures, c.wait-2.ensures))
