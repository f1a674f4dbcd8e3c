-- What the loop of `bemitondry_emitter::emitter_in` keeps.
use mathlib.Core.Path.{◌≡◌}
use Rattle.words.specs.Lists.{list_from}
use Rattle.emitter.specs.Emitter.{emitter_of}
use Rattle.bemitondry_emitter.specs.Emitter.{lent_light}
use Rattle.bemitondry_emitter.proofs.emitter_in.Given as goal

abbrev pub invariant-loop-i : goal.invariant-loop-i
invariant-loop-i l = l.best ≡ emitter_of (list_from (lent_light l.b) 0 l.i) l.aim.ro l.aim.rd l.aim.tmax
