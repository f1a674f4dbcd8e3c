-- `record_test::own_of` meets its contract: the lowest of four zeros is 0; else by its calls. Assumes nothing.
use Rattle.std.proofs.Common.{◌≡◌, true, rules}
use Rattle.refusals.specs.Refusals.{lower, unless}
use Rattle.record_test.proofs.own_of.Goals as goal

pub returns-then-list : goal.returns-then-list
unfolding lower unless
returns-then-list c =
    let m : c.args.material ≡ true = search rules in
    rw (c.if-prim-eq0.true, c.if-blend.true, m, c.if-list.true)

pub returns : goal.returns
returns c =
    rw (c.lower-3.ensures, c.lower-2.ensures, c.unless-3.ensures, c.unless-2.ensures, c.lower.ensures)
    (rw c.unless.ensures)
