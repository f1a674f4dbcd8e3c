-- `wire_used::load_ask` meets its contract, by those of its calls. Assumes nothing.
use mathlib.Core.Path.{sym}
use Rattle.wire.specs.Lent.{ask_table}
use Rattle.wire_used.proofs.load_ask.Goals as goal

pub returns : goal.returns
unfolding ask_table
returns c =
    λ zero none. rw (
      sym c.lent.ensures,
      sym c.lent-2.ensures,
      sym c.used.ensures,
      sym c.used-2.ensures,
    ) (c.load.ensures zero none)
