-- "`emitter_hit` goes through the caller's list of light records as lent": the nearest one that the ray meets before
-- its end, on the emitting side.
use Rattle.std.specs.Prelude.{Bool, true, cond, ◌&&◌, Option, Some, None, List, [], ◌∷◌, Float}
use Rattle.std.specs.Float.Ieee.{lt}
use Rattle.scalar.specs.F32.{f0}
use Rattle.vectors.specs.declared.Vec3.{Vec3}
use Rattle.vectors.specs.Vec.{vdot}
use Rattle.plan.specs.declared.QuadLight.{QuadLight}
use Rattle.quad.specs.Meets.{intersect_of}
use Rattle.panel.specs.declared.Panel.{Panel}
use Rattle.emitter.specs.declared.Emitted.{Emitted}
use Rattle.panel.specs.Panels.{panel_of}

unfoldable pub nearer_than : Option Emitted → Float → Bool
nearer_than None t = true
nearer_than (Some e) t = lt t e.t

unfoldable pub shows_of : Option Emitted → Panel → Vec3 → Float → Float → Bool
shows_of best a rd tmax t = lt t tmax && (lt (vdot a.normal rd) f0 && nearer_than best t)

abbrev pub emitter_at : Vec3 → Float → Option Emitted → Panel → Option Float → Option Emitted
emitter_at rd tmax best a None = best
emitter_at rd tmax best a (Some t) = cond (shows_of best a rd tmax t) (Some (record { t = t; emit = a.emit })) best

unfoldable pub emitter_step : Vec3 → Vec3 → Float → Option Emitted → QuadLight → Option Emitted  -- one light
emitter_step ro rd tmax best l = emitter_at rd tmax best (panel_of l) (intersect_of (panel_of l).quad ro rd)

unfoldable pub emitter_from : Vec3 → Vec3 → Float → Option Emitted → List QuadLight → Option Emitted
emitter_from ro rd tmax best [] = best
emitter_from ro rd tmax best (l ∷ ls) = emitter_from ro rd tmax (emitter_step ro rd tmax best l) ls

unfoldable pub emitter_of : List QuadLight → Vec3 → Vec3 → Float → Option Emitted
emitter_of ls ro rd tmax = emitter_from ro rd tmax None ls
