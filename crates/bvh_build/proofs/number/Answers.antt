-- `bvh_build::number` meets its contract: the places passed hold their numbers. Assumes nothing.
use Rattle.std.proofs.Common.{arith}
use Rattle.words.proofs.Runs.{fill_none, fill_more}
use Rattle.bvh_build.specs.Inside.Narrow.{low32}
use Rattle.bvh_build.proofs.number.Goals as goal

pub loop-i-init : goal.loop-i-init
loop-i-init c = fill_none low32 c.args.os.now

pub loop-i-preserved : goal.loop-i-preserved
loop-i-preserved c =
    let L = c.loop-i in fill_more low32 L.os L.i _ (omega arith) c.narrow.ensures L.invariant
