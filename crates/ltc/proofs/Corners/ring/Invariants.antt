-- What the loop of `Corners::ring` keeps.
use mathlib.Core.Path.{◌≡◌}
use mathlib.Core.List.{◌∷◌, map}
use lib.ListN.{drop}
use Rattle.ltc.specs.FormFactor.{on_sphere, ring_from, ring_of}
use Rattle.ltc.proofs.Corners.ring.Given as goal

abbrev pub invariant-loop-v : goal.invariant-loop-v
invariant-loop-v l = ring_from l.first (l.a ∷ map on_sphere (drop l.v-index l.v-items)) l.sum ≡ ring_of l.self
