-- What the loop of `bvh_build::number` keeps.
use Rattle.std.proofs.Common.{◌≡◌, take}
use Rattle.words.specs.Lists.{list_from}
use Rattle.bvh_build.specs.Inside.Narrow.{low32}
use Rattle.bvh_build.proofs.number.Given as goal

abbrev pub invariant-loop-i : goal.invariant-loop-i
invariant-loop-i l = take l.i l.os ≡ list_from low32 0 l.i
