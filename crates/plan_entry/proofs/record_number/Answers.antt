-- `plan_entry::record_number` meets its contract: call by call. Assumes nothing.
use Rattle.plan_entry.proofs.record_number.Goals as goal

pub returns : goal.returns
returns c =
    rw (c.lower-2.ensures, c.unless.ensures, c.both.ensures, c.counts_ok.ensures)
    (rw c.lower.ensures)
