-- `bvh_check::leaf_ok` meets its contract: each return is a case of `leaf_ok`. Assumes nothing.
use Rattle.bvh_rules.proofs.Level.{leaf_good, leaf_bad}
use mathlib.Core.Path.{sym, ◌∙◌}
use Rattle.bvh_check.proofs.leaf_ok.Goals as goal

pub returns-then-leaf_words : goal.returns-then-leaf_words
returns-then-leaf_words c =
    c.holds_all.ensures ∙ sym
    (leaf_good _ _ _ _ _ c.objects.ensures
    (sym c.leaf_words.ensures ∙ c.if-leaf_words.true))

pub returns : goal.returns
returns c =
    sym (leaf_bad _ _ _ _ _ c.objects.ensures
    (sym c.leaf_words.ensures ∙ c.if-leaf_words.false))
