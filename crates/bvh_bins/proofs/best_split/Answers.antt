-- `bvh_bins::best_split` meets its contract: what each step says, put together. Assumes nothing.
use Rattle.std.proofs.Common.{refl}
use Rattle.bvh_bins.proofs.Numbers.{nowhere_all}
use Rattle.bvh_bins.proofs.Turns.{best_of}
use Rattle.bvh_bins.proofs.best_split.Goals as goal

pub returns : goal.returns
returns c =
    let e = c.empty_boxes.ensures in (
      best_of _ _ _ _ _ _ _ _ _ refl refl e (c.fill_bins.ensures.0 (nowhere_all _ _ refl e))
          c.sweep_left.ensures c.sweep_right.ensures,
      c.fill_bins.ensures.1,
    )
