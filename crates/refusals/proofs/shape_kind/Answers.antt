-- `refusals::shape_kind` meets its contract. Assumes nothing.
use Rattle.std.proofs.Common.{ap, ◌∙◌}
use Rattle.std.specs.Result.{result_unwrap_or}
use Rattle.refusals.specs.declared.Kind.TheVariants.{Cone}
use Rattle.refusals.specs.Kinds.{shape_kind}
use Rattle.refusals.proofs.shape_kind.Goals as goal

pub returns : goal.returns
unfolding shape_kind
returns c = c.unwrap_or.ensures ∙ ap (λ k. result_unwrap_or k Cone) c.try_from.ensures
