-- A word as a kind: each arm is a case of `kind_of`. Assumes nothing.
use Rattle.std.proofs.Common.{arith}
use borrow.Author.Tests.{ne_eqb}
use Rattle.refusals.specs.Kinds.{kind_of}
use Rattle.refusals.proofs.KindTryFromU32.try_from.Goals as goal

pub returns-in-0 : goal.returns-in-0
unfolding kind_of
returns-in-0 c = rw c.in-0.is

pub returns-in-1 : goal.returns-in-1
unfolding kind_of
returns-in-1 c = rw c.in-1.is

pub returns-in-2 : goal.returns-in-2
unfolding kind_of
returns-in-2 c = rw c.in-2.is

pub returns-in-3 : goal.returns-in-3
unfolding kind_of
returns-in-3 c = rw c.in-3.is

pub returns-in-4 : goal.returns-in-4
unfolding kind_of
returns-in-4 c = rw c.in-4.is

pub returns-in-5 : goal.returns-in-5
unfolding kind_of
returns-in-5 c = rw c.in-5.is

pub returns-in-6 : goal.returns-in-6
unfolding kind_of
returns-in-6 c = rw c.in-6.is

pub returns-in_default : goal.returns-in_default
unfolding kind_of
returns-in_default c =
    simp (
      ne_eqb c.args.word 0 (λ e. omega arith),
      ne_eqb c.args.word 1 (λ e. omega arith),
      ne_eqb c.args.word 2 (λ e. omega arith),
      ne_eqb c.args.word 3 (λ e. omega arith),
      ne_eqb c.args.word 4 (λ e. omega arith),
      ne_eqb c.args.word 5 (λ e. omega arith),
      ne_eqb c.args.word 6 (λ e. omega arith),
    )
