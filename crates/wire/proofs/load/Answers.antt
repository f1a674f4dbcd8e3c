-- `wire::load` meets its contract: each part is that of its table. Assumes nothing.
use native.Mathlib.Omega.{arith}
use Rattle.wire.proofs.Loads.{table_loaded, floats_long}
use Rattle.wire.proofs.load.Goals as goal

pub returns : goal.returns
returns c =
    let loaded =
    table_loaded _ _ _ _ _ c.args.ws.now _ _ _ _ _ (omega arith) c.none.ensures
    c.load_part.ensures c.load_part-2.ensures c.load_part-3.ensures c.load_part-4.ensures
    c.load_part-5.ensures in
    (loaded, floats_long _ _ _ c.floats.ensures (omega arith))
