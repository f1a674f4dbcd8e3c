-- The range of `bvh_build::build_recursive` shrinks at each call.
use Rattle.std.proofs.Common.{length}
use Rattle.bvh_build.proofs.+build_recursive.Given as goal

abbrev pub decreases-build_recursive : goal.decreases-build_recursive
decreases-build_recursive l = length l.os.now
