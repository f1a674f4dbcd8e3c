-- What the loops of `bvh_search::run` keep, and what falls.
use Rattle.std.proofs.Common.{◌-◌, [], ◌∷◌}
use Rattle.bvh_rules.specs.Nodes.{nodes_most, nodes_of, order_of}
use Rattle.bvh_search.specs.Search.{run_of}
use Rattle.bvh_search.proofs.Machine.{Busy}
use Rattle.bvh_search.proofs.run.Given as goal

abbrev pub invariant-loop-s : goal.invariant-loop-s
invariant-loop-s l =
    Busy (nodes_of l.ws) (nodes_of l.fs) (order_of l.ws) l.ws l.fs l.p
    (run_of (nodes_of l.ws) (nodes_of l.fs) (order_of l.ws) l.ws l.fs l.p nodes_most (0 ∷ []) l.initial.s.hit 0 0) l.stack l.s

abbrev pub decreases-loop-s : goal.decreases-loop-s
decreases-loop-s l = nodes_most - l.s.popped
