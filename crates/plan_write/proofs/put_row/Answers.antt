-- `plan_write::put_row` meets its contract: a row copied is a run of stores. Assumes nothing.
use Rattle.std.proofs.Common.{◌*◌, ◌+◌, arith}
use Rattle.words.proofs.Stores.{part_put}
use Rattle.plan_write.proofs.Lists.{row_in, row_out}
use Rattle.plan_write.proofs.put_row.Goals as goal

pub returns-then-r : goal.returns-then-r
returns-then-r c =
    let a = c.args in
    rw (c.copy_from_slice.ensures.after, row_in a.ws.now a.r a.rec.now c.if-r.true)
    (part_put a.ws.now a.rec.now (16 * a.r) (16 * a.r + 16) (omega (arith, c.told-rec)) (omega (arith, c.told-ws)))

pub returns-else-r : goal.returns-else-r
returns-else-r c = let a = c.args in rw (row_out a.ws.now a.r a.rec.now c.if-r.false)
