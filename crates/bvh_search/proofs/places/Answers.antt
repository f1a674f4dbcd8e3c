-- `bvh_search::places` meets its contract, by those of its calls. Assumes nothing.
use Rattle.bvh_search.specs.Search.{places_of}
use Rattle.bvh_search.proofs.places.Goals as goal

pub returns : goal.returns
unfolding places_of
returns c = rw (c.min.ensures, c.saturating_sub.ensures)
