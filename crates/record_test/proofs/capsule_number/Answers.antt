-- `record_test::capsule_number` meets its contract, by those of its calls. Assumes nothing.
use Rattle.record_test.proofs.capsule_number.Goals as goal

pub returns : goal.returns
returns c =
    rw (c.lower.ensures, c.unless.ensures, c.no_length.ensures, c.sub.ensures)
    (rw (c.bad_unless.ensures, c.ends_ok.ensures))
