-- What no words make.
use Rattle.std.specs.Float.{nan}
use Rattle.sdf.specs.declared.Shape.{Shape}
use Rattle.refusals.specs.Prims.{shape_of}
use Rattle.plan.specs.declared.Head.{Head}
use Rattle.plan.specs.Records.{no_vec}

abbrev pub no_shape : Shape
no_shape = shape_of 0 no_vec no_vec nan nan

abbrev pub no_head : Head
no_head = record { material = 0; blend = nan; cutters = 0; kind = 0; shape = no_shape; place = 0 }
