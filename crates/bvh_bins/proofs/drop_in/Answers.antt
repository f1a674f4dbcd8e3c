-- `bvh_bins::drop_in` meets its contract: a row put is a box put. Assumes nothing.
use Rattle.std.proofs.Common.{sym, ap, ◌∙◌, subst}
use Rattle.bvh_range.specs.Inside.Table.{table_boxes}
use Rattle.bvh_range.specs.Inside.Numbers.{Numbers}
use Rattle.bvh_range.proofs.Table.{rows_put}
use Rattle.bvh_bins.proofs.drop_in.Goals as goal

pub returns : goal.returns
returns c = (
  λ h.
      let r = c.row_at.ensures in
      ap table_boxes c.put_row.ensures ∙ rows_put _ _ _ ∙
      (rw (c.join-m.ensures (subst Numbers (sym r) h), r)),
  c.count_in.ensures,
)
