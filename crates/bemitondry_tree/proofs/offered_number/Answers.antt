-- `bemitondry_tree::offered_number` meets its contract: 0 for a good tree, else what it is refused with. Assumes nothing.
use mathlib.Core.Path.{sym, ◌∙◌, ap}
use Rattle.bvh_rules.specs.Check.{is_good, offered_number}
use Rattle.bemitondry_tree.specs.Trees.{judged_tree, offered_tree}
use Rattle.bemitondry_tree.proofs.offered_number.Goals as goal

pub returns-then-is_good : goal.returns-then-is_good
unfolding judged_tree offered_tree offered_number
returns-then-is_good c = λ e. rw (ap is_good (sym e) ∙ sym c.is_good.ensures ∙ c.if-is_good.true)

pub returns : goal.returns
unfolding judged_tree offered_tree offered_number
returns c =
    λ e. rw (ap is_good (sym e) ∙ sym c.is_good.ensures ∙ c.if-is_good.false)
    c.refused_number.ensures
