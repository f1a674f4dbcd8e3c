-- What is left to go through, from the best so far, gives the answer of the whole list.
use Rattle.std.proofs.Common.{◌≡◌, drop}
use Rattle.emitter.specs.Emitter.{emitter_from, emitter_of}
use Rattle.emitter_list.proofs.emitter_among.Given as goal

abbrev pub invariant-loop-i : goal.invariant-loop-i
invariant-loop-i l =
    emitter_from l.aim.ro l.aim.rd l.aim.tmax l.best (drop l.i l.lights)
    ≡ emitter_of l.lights l.aim.ro l.aim.rd l.aim.tmax
