-- `bemitondry_entry::add_light` meets its contract: the reply to what the entry answers. Assumes nothing.
use Rattle.bemitondry_entry.proofs.Enters.{enters_table}
use Rattle.bemitondry_entry.proofs.add_light.Goals as goal

pub returns : goal.returns
returns c = enters_table _ _ _ _ _ _ _ c.add_light.ensures c.added_reply.ensures
