-- `bvh_search::scanned` meets its contract, by those of its calls. Assumes nothing.
use Rattle.bvh_search.specs.Inside.Machine.{scanned_of}
use Rattle.bvh_search.proofs.scanned.Goals as goal

pub returns : goal.returns
unfolding scanned_of
returns c =
    rw (
      c.next.ensures,
      c.wrapping_add_u32.ensures.value,
      c.limit.ensures,
      c.leaf_hit-seen.ensures,
      c.places.ensures,
    )
