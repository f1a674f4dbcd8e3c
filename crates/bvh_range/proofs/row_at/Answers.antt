-- `bvh_range::row_at` meets its contract: past the last box lies none. Assumes nothing.
use borrow.Author.Rules.{rules}
use Rattle.root.proofs.Nans.{zero_by_zero}
use Rattle.bvh_range.proofs.Table.{box_here, box_past}
use Rattle.bvh_range.proofs.row_at.Goals as goal

pub returns-then-k-t : goal.returns-then-k-t
returns-then-k-t c =
    rw (box_here _ _ c.if-k-t.true) (search rules)

pub returns : goal.returns
returns c = rw (box_past _ _ c.if-k-t.false, c.splat-none.ensures, zero_by_zero)
