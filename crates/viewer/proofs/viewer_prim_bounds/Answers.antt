-- `viewer_prim_bounds` meets its contract: what is sent is the call's reply. Assumes nothing.
use Rattle.std.proofs.Common.{rules}
use Rattle.viewer.specs.Calls.{prim_bounds_lent}
use Rattle.wire.proofs.Replies.{sent_as}
use Rattle.viewer.proofs.viewer_prim_bounds.Goals as goal

pub returns : goal.returns
unfolding prim_bounds_lent
returns c =
    let e = c.answer.ensures in
    let reply = e.2 in
    let lent = e.3 in
    sent_as (search rules) e.4
