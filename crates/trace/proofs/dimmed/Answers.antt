-- `trace::dimmed` meets its contract: with no root by what `clear` tells, else as it stands. Assumes nothing.
use mathlib.Core.Path.{sym}
use Rattle.trace.proofs.dimmed.Goals as goal

pub returns-then-clear : goal.returns-then-clear
returns-then-clear c = sym (c.clear.ensures c.if-clear.true)

pub returns : goal.returns
returns c = rw (c.min.ensures, c.quick_root.ensures)
