-- `plan::word_at` meets its contract: past the last row there is no word. Assumes nothing.
use mathlib.Core.Path.{sym}
use native.Mathlib.Omega.{arith}
use lib.ListN.{get_or-eq_default}
use Rattle.plan.proofs.word_at.Goals as goal

pub returns : goal.returns
returns c = sym (get_or-eq_default c.args.ws.now 0 (omega arith))
