-- `ltc::clip_to_horizon` meets its contract: each edge adds its part. Assumes nothing.
use Rattle.ltc.proofs.Places.{four}
use Rattle.ltc.proofs.clip_to_horizon.Goals as goal

pub returns : goal.returns
returns c =
    four c.args.q c.none-c.ensures c.clip_edge.ensures c.clip_edge-2.ensures c.clip_edge-3.ensures c.clip_edge-4.ensures
