-- `bvh_build::build_recursive` meets its contract: each return is a case of one level, and the range shrinks at each
-- call. Assumes nothing.
use Rattle.std.proofs.Common.{◌≡◌, ℕ, ◌++◌, length, drop, sym, arith}
use Rattle.bvh_build.proofs.Level.{Cut, cut_known, back_length, right_falls, lays_none}
use Rattle.bvh_build.proofs.Level.{lays_leaf}
use Rattle.bvh_build.proofs.Level.{lays_node}
use Rattle.bvh_build.proofs.+build_recursive.Goals as goal
use Rattle.bvh_build.proofs.+build_recursive.Goals.{After-cut-mid, After-build_recursive-left}

-- what is known of the cut, and of the range when its left part is back
cut_of : (t : ℕ) (c : After-cut-mid t) → Cut c.args.os.now c.cut-mid.new.os c.cut-mid.result
cut_of t c =
    cut_known _ _ _ _ _ c.span_of-s.ensures c.extent.ensures c.stops.ensures _ _ c.if-stops.false c.cut-mid.ensures

back_of
    : (t : ℕ) (c : After-build_recursive-left t)
    → length (c.build_recursive-left.new.os ++ drop c.cut-mid.result c.cut-mid.new.os) ≡ length c.args.os.now
back_of t c =
    back_length _ _ c.build_recursive-left.new.os _
    (cut_known _ _ _ _ _ c.span_of-s.ensures c.extent.ensures c.stops.ensures _ _ c.if-stops.false c.cut-mid.ensures)
    c.build_recursive-left.auto.os

pub returns-then-at-ge-NODES_MOST : goal.returns-then-at-ge-NODES_MOST
returns-then-at-ge-NODES_MOST t c = lays_none _ _ _ _ _ _ _ _ _ c.if-at-ge-NODES_MOST.true

pub returns-then-stops : goal.returns-then-stops
returns-then-stops t c =
    lays_leaf _ _ _ _ _ c.span_of-s.ensures c.extent.ensures c.stops.ensures _ _ _ _ _ _ _ c.if-stops.true
    c.narrow.ensures c.narrow-then-stops.ensures c.put_node.ensures

pub slice_bounds-build_recursive-end : goal.slice_bounds-build_recursive-end
slice_bounds-build_recursive-end t c =
    let k = cut_of t (goal.at.slice_bounds-build_recursive-end t c).After-cut-mid in omega arith

pub slice_bounds-build_recursive-end-2 : goal.slice_bounds-build_recursive-end-2
slice_bounds-build_recursive-end-2 t c =
    sym (cut_of t (goal.at.slice_bounds-build_recursive-end-2 t c).After-cut-mid).taken

pub build_recursive-left-requires : goal.build_recursive-left-requires
build_recursive-left-requires t c =
    let k = cut_of t (goal.at.build_recursive-left-requires t c).After-cut-mid in (omega (arith, c.decreases), tt)

pub offset_bounds-os-mid : goal.offset_bounds-os-mid
offset_bounds-os-mid t c =
    let k = cut_of t (goal.at.offset_bounds-os-mid t c).After-cut-mid in omega arith

pub slice_bounds-build_recursive-count : goal.slice_bounds-build_recursive-count
slice_bounds-build_recursive-count t c =
    let a = goal.at.slice_bounds-build_recursive-count t c in
    let k = cut_of t a.After-cut-mid in
    omega (arith, back_of t a.After-build_recursive-left)

pub slice_bounds-build_recursive-start : goal.slice_bounds-build_recursive-start
slice_bounds-build_recursive-start t c =
    let a = goal.at.slice_bounds-build_recursive-start t c in
    let k = cut_of t a.After-cut-mid in
    omega (arith, back_of t a.After-build_recursive-left)

pub build_recursive-right-requires : goal.build_recursive-right-requires
build_recursive-right-requires t c =
    let k = cut_of t (goal.at.build_recursive-right-requires t c).After-cut-mid in (
      right_falls _ _ c.build_recursive-left.new.os _ k c.build_recursive-left.auto.os _ c.decreases,
      tt,
    )

pub returns : goal.returns
returns t c =
    lays_node _ _ _ _ _ c.span_of-s.ensures c.extent.ensures c.stops.ensures _ _ _ _ c.cut-mid.result c.cut-mid.new.os
    _ _ _ c.build_recursive-left.new.os _ _ _ _ _ c.build_recursive-right.new.os _ c.if-stops.false c.cut-mid.ensures
    c.saturating_sub-below.ensures c.build_recursive-left.ensures c.build_recursive-left.auto.os c.narrow-2.ensures
    c.put_node-2.ensures c.wrapping_add_usize-second.ensures.value c.build_recursive-right.ensures c.both.ensures
