-- `root::step` meets its contract: the digit is 0 where it is taken back, else 1. Assumes nothing.
use Rattle.std.proofs.Common.{arith}
use Rattle.root.proofs.Places.{word_one, word_none}
use Rattle.root.proofs.step.Goals as goal
use Rattle.root.proofs.step.Goals.{then-r-t, else-r-t}

pub returns : goal.returns
returns c =
    let t = c.wrapping_add_u32-t in
    let a = c.args in
    let x = c.wrapping_sub_u32 in
    λ n h. elim c.if-r-t.branch [
      | then-r-t w ↦ word_none n a.r.left a.r.twice a.bit t.result x.result h t.ensures.value _ _ w.twice-is w.square-is
          x.ensures.value (omega arith) w.if-r-t.true
      | else-r-t w ↦ word_one n a.r.left a.r.twice a.bit t.result x.result h t.ensures.value _ _ _ w.twice-is
          c.wrapping_add_u32-twice.ensures.value w.square-is x.ensures.value (omega arith) w.if-r-t.false
    ]
