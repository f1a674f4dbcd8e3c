-- `sdf_caps::above_zero` meets its contract. Assumes nothing.
use lib.Dec.{T}
use lib.Ieee.{binary32, of_bits, lt}
use Rattle.scalar.specs.F32.{f0}
use Rattle.sdf_caps.proofs.Laws.{more_than}
use Rattle.sdf_caps.proofs.above_zero.Goals as goal

-- 1e-30
some : T (lt f0 (of_bits binary32 0x0da2_4260))
unfolding lt of_bits
some = tt

pub returns-then-v : goal.returns-then-v
returns-then-v c = more_than _ c.args.v some c.if-v.true

pub returns : goal.returns
returns c = some
