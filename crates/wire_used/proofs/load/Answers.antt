-- `wire_used::load` meets its contract: what is used, or all, after counts, arguments and order. Assumes nothing.
use native.Mathlib.Omega.{arith}
use Rattle.wire_used.proofs.Loads.{begun_again, all_seen}
use Rattle.wire_used.proofs.load.Goals.{else-in_order-via-then-in_order+else-load_used, else-in_order-via-else-in_order}
use Rattle.wire_used.proofs.load.Goals as goal

pub returns-then-load_used : goal.returns-then-load_used
returns-then-load_used c = λ zero none.
    let most = c.max-m.ensures in
    let count = c.word_in.ensures in
    let b = c.load_early.ensures zero none _ in
    let r = c.load_used.ensures _ b (c.in_order.ensures c.if-in_order.true) (omega (arith, most, count)) in
    (r.0 c.if-load_used.true, all_seen _ _ r.1.shown)

-- a table of which more was loaded begins as it did
pub returns : goal.returns
returns c = λ zero none.
    let most = c.max-m.ensures in
    let count = c.word_in.ensures in
    let b = c.load_early.ensures zero none _ in
    elim c.else-in_order.branch [
      | else-in_order-via-then-in_order+else-load_used w ↦
          let r = w.load_used.ensures _ b (c.in_order.ensures w.if-in_order.true) (omega (arith, most, count)) in
          let a = c.load_all.ensures _ (rw (w.ws-is, w.fs-is) (begun_again _ _ _ _ _ _ _ b r.1)) in
          (a.0, all_seen _ _ a.1)
      | else-in_order-via-else-in_order w ↦
          let a = c.load_all.ensures _ (rw (w.ws-is, w.fs-is) b) in
          (a.0, all_seen _ _ a.1)
    ]
