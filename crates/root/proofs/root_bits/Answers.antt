-- `root::root_bits` meets its contract. The loop keeps the value m * 2 ^ 25 * 4 ^ j, and m grows until it has 24 or 25
-- digits. Assumes nothing.
use Rattle.std.proofs.Common.{◌*◌, ◌≤◌, not-le_of_lt, arith, lit<}
use Rattle.root.proofs.Core.{begin, e_small, zero_is, at_most, j_pos, m_pos, four_times, turn, result}
use Rattle.root.proofs.root_bits.Goals as goal

pub returns-then-b-eq0 : goal.returns-then-b-eq0
returns-then-b-eq0 c = (lit< tt, λ _. zero_is c.args.b c.if-b-eq0.true)

pub returns-then-b-ge2139095040 : goal.returns-then-b-ge2139095040
returns-then-b-ge2139095040 c = (lit< tt, λ h. absurd (not-le_of_lt h c.if-b-ge2139095040.true))

pub overflow_add-j : goal.overflow_add-j
overflow_add-j c =
    omega (
      arith,
      e_small c.args.b c.exponent.result c.exponent.ensures
          (omega arith),
    )

pub overflow_add-j-2 : goal.overflow_add-j-2
overflow_add-j-2 c =
    omega (
      arith,
      e_small c.args.b c.exponent.result c.exponent.ensures
          (omega arith),
    )

pub loop-m-init : goal.loop-m-init
loop-m-init c =
    let b = c.args.b in
    let m = c.scaled-m in
    let e = e_small b c.exponent.result c.exponent.ensures (omega arith) in (
      begin b (m.result * 33554432) c.exponent.result c.exponent.ensures m.ensures.1,
      m_pos b m.result _ (omega arith) m.ensures.1,
      m.ensures.0,
      omega arith,
    )

pub overflow_sub-j : goal.overflow_sub-j
overflow_sub-j c =
    let l = c.loop-m in
    j_pos _ (l.m * 33554432) l.j l.invariant.0 (omega arith) (omega arith)

pub loop-m-smaller : goal.loop-m-smaller
loop-m-smaller c = let q = four_times c.loop-m.m c.loop-m-test.true in omega arith

pub loop-m-preserved : goal.loop-m-preserved
loop-m-preserved c =
    let l = c.loop-m in
    let j : 1 ≤ l.j = j_pos _ (l.m * 33554432) l.j l.invariant.0 (omega arith) (omega arith) in
    let q = four_times l.m c.loop-m-test.true in (
      turn _ l.m l.j j c.loop-m-test.true l.invariant.0,
      omega arith,
      omega arith,
      omega arith,
    )

pub overflow_add-result : goal.overflow_add-result
overflow_add-result c =
    let l = c.loop-m in
    omega (
      arith,
      at_most (l.m * 33554432) c.rounded.result (c.rounded.ensures l.invariant.1 l.invariant.2) (omega arith),
    )

pub returns : goal.returns
returns c =
    let l = c.loop-m in
    let n = c.rounded.ensures l.invariant.1 l.invariant.2 in (
      omega (
        arith,
        at_most (l.m * 33554432) c.rounded.result n (omega arith),
      ),
      λ h. result _ (l.m * 33554432) l.j c.rounded.result h l.invariant.3 l.invariant.0 n (omega arith)
          (omega arith),
    )
