-- What the loop of `bvh_search::leaf_hit` keeps.
use Rattle.std.proofs.Common.{◌≡◌}
use Rattle.bvh_rules.specs.Nodes.{order_of}
use Rattle.bvh_search.specs.Search.{leaf_hit}
use Rattle.bvh_search.proofs.leaf_hit.Given as goal

abbrev pub invariant-loop-j : goal.invariant-loop-j
invariant-loop-j l = l.hit ≡ leaf_hit l.ws l.fs (order_of l.ws) l.p l.s l.j l.initial.hit
