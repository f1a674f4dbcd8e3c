-- What the loop of `bemitondry_tree::copy_front` keeps.
use mathlib.Core.Path.{◌≡◌}
use lib.ListN.{take}
use Rattle.words.specs.Lists.{list_from}
use Rattle.bemitondry_tree.specs.Trees.{front_word}
use Rattle.bemitondry_tree.proofs.copy_front.Given as goal

abbrev pub invariant-loop-i : goal.invariant-loop-i
invariant-loop-i l = take l.i l.to ≡ list_from (front_word l.ws l.from l.k) 0 l.i
