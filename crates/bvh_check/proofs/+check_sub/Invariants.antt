-- The levels left fall at each call of `bvh_check::check_sub`.
use Rattle.bvh_check.proofs.+check_sub.Given as goal

abbrev pub decreases-check_sub : goal.decreases-check_sub
decreases-check_sub l = l.level
