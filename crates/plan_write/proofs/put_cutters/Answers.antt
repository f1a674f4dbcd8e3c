-- `plan_write::put_cutters` meets its contract: the table has the cutters passed. Assumes nothing.
use mathlib.Core.Path.{◌≡◌, sym}
use native.Mathlib.Omega.{arith}
use Rattle.plan_write.proofs.Lists.{put_none, put_more}
use Rattle.plan_write.proofs.put_cutters.Goals as goal

pub loop-j-init : goal.loop-j-init
loop-j-init c = let a = c.args in put_none a.ws.now a.place

pub loop-j-preserved : goal.loop-j-preserved
loop-j-preserved c =
    let l = c.loop-j in
    rw (put_more, c.put_row.ensures, c.cutter_words-rec.ensures, l.invariant)

pub returns : goal.returns
returns c =
    let e : c.loop-j.j ≡ c.args.n = omega arith in
    rw (sym e) c.loop-j.invariant
