-- `bvh_bins::choose` meets its contract: each return is a case of `choose`. Assumes nothing.
use Rattle.std.proofs.Common.{sym, ⊎_elim, eq-eqb, ne_eqb}
use Rattle.bvh_bins.specs.Bins.{choose}
use Rattle.bvh_bins.proofs.choose.Goals as goal

pub returns-then-left-eq0 : goal.returns-then-left-eq0
unfolding choose
returns-then-left-eq0 c =
    let a = c.args in
    ⊎_elim (λ e. simp (eq-eqb a.left.count 0 e)) (λ p. simp (ne_eqb a.left.count 0 p.0, eq-eqb a.s.count 0 p.1))
    c.then-left-eq0.either

pub returns-then-c-s : goal.returns-then-c-s
unfolding choose
returns-then-c-s c =
    simp (
      ne_eqb _ _ c.if-left-eq0.false,
      ne_eqb _ _ c.if-s-eq0.false,
    )
    (rw (sym c.cost-c.ensures, c.if-c-s.true))

pub returns : goal.returns
unfolding choose
returns c =
    simp (
      ne_eqb _ _ c.if-left-eq0.false,
      ne_eqb _ _ c.if-s-eq0.false,
    )
    (rw (sym c.cost-c.ensures, c.if-c-s.false))
