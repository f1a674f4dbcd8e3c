-- `bemitondry_tree::copy_front` meets its contract: the words passed are those of `front_word`. Assumes nothing.
use Prim.Native.Nat.{ℕ}
use mathlib.Core.Path.{◌∙◌, ap}
use mathlib.Core.Bool.{cond}
use native.Mathlib.Omega.{arith}
use lib.Dec.{ltb}
use borrow.Author.Rules.{rules}
use Rattle.words.proofs.Runs.{fill_none, fill_more, fill_all}
use Rattle.bemitondry_tree.specs.Trees.{front_word}
use Rattle.bemitondry_tree.proofs.copy_front.Goals as goal

pub loop-i-init : goal.loop-i-init
loop-i-init c = fill_none (front_word _ _ _) c.args.to.now

pub loop-i-preserved : goal.loop-i-preserved
unfolding front_word
loop-i-preserved c =
    let l = c.loop-i in
    let s = c.args in
    let e = c.word_if.ensures ∙ ap (λ (x : ℕ). cond (ltb l.i s.k) x 0) c.word_in.ensures in
    fill_more (front_word s.ws.now s.from s.k) l.to l.i _ (omega arith) e l.invariant

pub returns : goal.returns
returns c =
    let l = c.loop-i in
    fill_all (front_word _ _ _) l.to l.i _ (search rules) (search rules) (search rules) l.invariant
