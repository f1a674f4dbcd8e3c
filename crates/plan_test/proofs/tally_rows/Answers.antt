-- `plan_test::tally_rows` meets its contract: the tally so far is that of the pieces passed, and no sum of so many
-- words wraps. Assumes nothing.
use borrow.Author.Rules.{rules}
use mathlib.Core.Path.{◌≡◌, sym}
use native.Mathlib.Omega.{arith}
use Rattle.plan.specs.Sections as sections
use Rattle.plan.specs.Records.{head_at}
use Rattle.plan.specs.Plan.{count_of}
use Rattle.plan_test.specs.Tests.{place_ok, tally_of}
use Rattle.plan_test.proofs.Lists.{own_start, own_more, used_start, used_more, placed_start}
use Rattle.plan_test.proofs.Lists.{placed_more, sum_words, sum_fits}
use Rattle.plan_test.proofs.tally_rows.Goals as goal

pub loop-j-init : goal.loop-j-init
loop-j-init c =
    let a = c.args in
    let w = a.ws.now in
    let f = a.fs.now in (
      search rules,
      own_start w f a.r a.planes (count_of sections.materials w),
      placed_start w f a.r a.planes,
      used_start w f a.r,
      search rules,
    )

pub overflow_add-used : goal.overflow_add-used
overflow_add-used c =
    sum_fits c.loop-j.used _ c.loop-j.j (search rules) (search rules) (search rules)

pub loop-j-preserved : goal.loop-j-preserved
unfolding place_ok head_at
loop-j-preserved c = (
  search rules,
  rw (own_more, c.lower-number.ensures, c.own_at.ensures, c.loop-j.invariant.1),
  rw (placed_more, c.both-placed.ensures, c.place_ok.ensures)
      (rw (c.word_after-place.ensures, c.word_after-cutters.ensures, c.loop-j.invariant.2, c.loop-j.invariant.3)),
  rw (used_more, c.word_after-cutters.ensures, c.loop-j.invariant.3),
  sum_words c.loop-j.used _ c.loop-j.j (search rules) (search rules),
)

pub returns : goal.returns
unfolding tally_of
returns c =
    let i = c.loop-j.invariant in
    let e : c.loop-j.j ≡ c.args.n = omega arith in
    rw (sym e, sym i.0, i.1, i.2, i.3)
