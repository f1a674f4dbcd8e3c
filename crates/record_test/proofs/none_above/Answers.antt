-- `record_test::none_above` meets its contract: by what each call returns. Assumes nothing.
use Rattle.record_test.specs.Inside.Prims.{none_above}
use Rattle.record_test.proofs.none_above.Goals as goal

pub returns : goal.returns
unfolding none_above
returns c = rw (c.both.ensures, c.four-2.ensures, c.four.ensures)
