-- The subtree that the checker's walk hands up, as the definitions tell of it.
use Rattle.std.specs.Prelude.{Option, Some, None}
use Rattle.bvh_rules.specs.declared.Sub.{Sub}
use Rattle.bvh_check.specs.declared.Part.{Part}

abbrev pub told : Option Part → Option Sub
told None = None
told (Some p) = Some (record { next = p.next; ends = p.ends })
