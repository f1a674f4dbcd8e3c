-- `bemitondry_entry::add_piece` meets its contract: the reply to what the entry answers. Assumes nothing.
use Rattle.bemitondry_entry.proofs.Enters.{enters_table}
use Rattle.bemitondry_entry.proofs.add_piece.Goals as goal

pub returns : goal.returns
returns c = enters_table _ _ _ _ _ _ _ c.add_piece.ensures c.added_reply.ensures
