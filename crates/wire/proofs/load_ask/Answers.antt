-- `wire::load_ask` meets its contract, by those of its calls. Assumes nothing.
use Rattle.wire.specs.Lent.{ask_table}
use Rattle.wire.proofs.Loads.{table_by}
use Rattle.wire.proofs.load_ask.Goals as goal

pub returns : goal.returns
unfolding ask_table
returns c = (
  table_by _ _ _ _ _ _ _ _ _ c.lent.ensures c.lent-2.ensures c.used.ensures
      c.used-2.ensures c.load.ensures.0,
  c.load.ensures.1,
)
