-- `bemitondry_entry::added_reply` meets its contract: each return is a case of `added_reply`. Assumes nothing.
use Rattle.bemitondry_entry.specs.Inside.Enters.{added_reply}
use Rattle.bemitondry_entry.proofs.added_reply.Goals as goal

pub returns-in-Err : goal.returns-in-Err
unfolding added_reply
returns-in-Err c = rw (c.in-Err.is, c.refused.ensures)

pub returns-in-Ok : goal.returns-in-Ok
unfolding added_reply
returns-in-Ok c = rw (c.in-Ok.is, c.done.ensures)
