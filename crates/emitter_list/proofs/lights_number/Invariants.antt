-- The lowest number so far is that of the lights passed.
use Rattle.std.proofs.Common.{◌≡◌, take}
use Rattle.refusals.specs.Refusals.{lowest_of}
use Rattle.record_test.specs.Numbers.{light_number}
use Rattle.emitter_list.proofs.lights_number.Given as goal

abbrev pub invariant-loop-l : goal.invariant-loop-l
invariant-loop-l l = l.least ≡ lowest_of light_number (take l.l-index l.lights)
