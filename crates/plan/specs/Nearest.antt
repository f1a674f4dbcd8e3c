-- "An object's distance starts at its primitive and takes `max` with minus each cutter's, in order. A distance that is
-- not a number is never nearest. `dist_mat` begins at `f32::MAX` and material 0, takes planes in order, then objects;
-- only strictly less replaces."
use Rattle.std.specs.Prelude.{cond, List, [], ◌∷◌, Float}
use Rattle.std.specs.Float.Ieee.{neg, lt}
use Rattle.scalar.specs.Extremes.{fmax}
use Rattle.vectors.specs.declared.Vec3.{Vec3}
use Rattle.sdf.specs.Shapes.{dist_of}
use Rattle.refusals.specs.Ranges.{greatest}
use Rattle.plan.specs.declared.Cutter.{Cutter}
use Rattle.plan.specs.declared.DistHit.{DistHit}
use Rattle.plan.specs.Plan.{Cuts, Piece, Plan}

unfoldable pub cut_by : Cutter → Vec3 → Float → Float
cut_by c p d = fmax d (neg (dist_of c.shape p))

unfoldable pub carve : Cuts → Vec3 → Float → Float
carve [] p d = d
carve (c ∷ cs) p d = carve cs p (cut_by c p d)

unfoldable pub piece_dist : Piece → Vec3 → Float
piece_dist o p = carve o.cuts p (dist_of o.head.shape p)

unfoldable pub hit_of : Piece → Vec3 → DistHit
hit_of o p = record { d = piece_dist o p; mat = o.head.material }

unfoldable pub closer : DistHit → DistHit → DistHit  -- only strictly less replaces
closer best hit = cond (lt hit.d best.d) hit best

unfoldable pub nearest : List Piece → Vec3 → DistHit → DistHit
nearest [] p best = best
nearest (o ∷ os) p best = nearest os p (closer best (hit_of o p))

abbrev pub nothing : DistHit  -- f32::MAX and material 0
nothing = record { d = greatest; mat = 0 }

unfoldable pub list_hit : Plan → Vec3 → DistHit → DistHit  -- the objects alone, from a bound
list_hit p q best = nearest p.objects q best
