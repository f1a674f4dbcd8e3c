-- Document 01's rows to be proved: each definition gives its row's answer, by computation. Assumes nothing.
use mathlib.Core.Path.{◌≡◌, refl}
use mathlib.Core.List.{List, [], ◌∷◌}
use Prim.Native.Nat.{ℕ}
use lib.ListN.{replicate}
use lib.IntN.{ℤ, pos, negsuc}
use lib.Ieee.{Float, binary32, of_int, of_bits, neg, add, sub, mul, div, lt, eq}
use Rattle.root.specs.Root.{root_of}
use Rattle.scalar.specs.F32.{f0, fhalf, f1, f2}
use Rattle.scalar.specs.Extremes.{fmin, fmax, clamp_of}
use Rattle.scalar.specs.Signs.{abs_of, signum_of}
use Rattle.vectors.specs.declared.Vec3.{Vec3}
use Rattle.vectors.specs.Vec.{vsplat, vadd, vsub, vscale, vdot, vlength, vmax, vabs}
use Rattle.sdf.specs.declared.Shape.{Shape}
use Rattle.sdf.specs.declared.Shape.TheVariants.{Sphere, RoundBox, Plane, Capsule, Torus, Cylinder, Cone}
use Rattle.sdf.specs.Shapes.{sphere, round_box, plane, capsule, torus, dist_of, beyond, cylinder_square, cylinder_body}
use Rattle.sdf.specs.Shapes.{cylinder, cone_end, cone_foot, cone_sign, cone_at, cone_body, cone}
use Rattle.words.specs.Lists.{list_from, All}
use Rattle.plan.specs.declared.DistHit.{DistHit}
use Rattle.plan.specs.Sections.{table_words}
use Rattle.plan.specs.Plan.{Piece, pieces_from, plan_of, seen}
use Rattle.plan.specs.Nearest.{cut_by, carve, piece_dist, hit_of, closer, nearest, nothing, list_hit}
use Rattle.bvh_search.specs.Field.{hit_by, field_by}
use Rattle.std.specs.Prelude.{Some, None}
use Rattle.trace.specs.declared.Traced.{Traced}
use Rattle.trace.specs.declared.Shadow.{Shadow}
use Rattle.trace.specs.Trace.{eps_of, point_at, stepped_of, follow, march, trace_of}
use Rattle.trace.specs.Shadow.{seen_of, cone_march, shadow_of}

-- what a row works out, and what it should be
pub data Answer : Type 0 where
  number : Float → Answer
  nearest_hit : DistHit → Answer
  met : Traced → Answer
  shaded : Shadow → Answer

pub record Row : Type 0 where
  pub gives : Answer
  pub wanted : Answer

abbrev pub Hold : Row → Type 0
Hold r = r.gives ≡ r.wanted

abbrev float_row : Float → Float → Row
float_row x y = record { gives = number x; wanted = number y }

-- the f32 of a whole number
unfoldable pub whole : ℤ → Float
whole z = of_int binary32 z

abbrev pub at : ℕ → ℕ → ℕ → Vec3
at x y z = record { x = whole (pos x); y = whole (pos y); z = whole (pos z) }

-- a distance from a point is a whole number
abbrev dist_row : Shape → Vec3 → ℤ → Row
dist_row s p z = float_row (dist_of s p) (whole z)

abbrev ball : ℕ → Shape
ball r = Sphere (at 0 0 0) (whole (pos r))

-- a piece of one shape less another
abbrev less : Shape → Shape → Piece
less s c =
    record {
      head = record { material = 0; blend = f0; cutters = 1; kind = 0; shape = s; place = 0 };
      cuts = record { kind = 0; shape = c } ∷ [];
    }

-- the field of one plane, y = 0
abbrev floor : Piece
floor =
    record {
      head = record { material = 0; blend = f0; cutters = 0; kind = 2; shape = Plane (at 0 1 0) f0; place = 1024 };
      cuts = [];
    }

abbrev over_floor : Vec3 → DistHit
over_floor p = nearest (floor ∷ []) p nothing

abbrev down : Vec3
down = record { x = f0; y = whole (negsuc 0); z = f0 }

-- "A table all of whose words are 0 is the empty plan"
abbrev zero_table : List ℕ
zero_table = replicate table_words 0

abbrev pub rows : List Row
rows =
    -- P1 root of 0.25 is 0.5
    float_row (root_of (of_bits binary32 0x3e80_0000)) fhalf
    -- P2 root of 2 has bits 3FB504F3 hex
    ∷ float_row (root_of (whole (pos 2))) (of_bits binary32 0x3FB5_04F3)
    -- P3 sphere at 0, r 1, from (3,4,0): 4
    ∷ dist_row (ball 1) (at 3 4 0) (pos 4)
    -- P4 round box half sizes 1, r 0, from (4,5,0): 5; from 0: -1
    ∷ dist_row (RoundBox (at 0 0 0) (at 1 1 1) f0) (at 4 5 0) (pos 5)
    ∷ dist_row (RoundBox (at 0 0 0) (at 1 1 1) f0) (at 0 0 0) (negsuc 0)
    -- P5 torus 2 and 1 from 0: 1
    ∷ dist_row (Torus (at 0 0 0) (whole (pos 2)) f1) (at 0 0 0) (pos 1)
    -- P6 capsule 0 to (0,2,0), r 1, from (0,5,0): 2
    ∷ dist_row (Capsule (at 0 0 0) (at 0 2 0) f1) (at 0 5 0) (pos 2)
    -- P7 cylinder, same: 3
    ∷ dist_row (Cylinder (at 0 0 0) (at 0 2 0) f1) (at 0 5 0) (pos 3)
    -- P8 cone 0 to (0,2,0), radii 1 and 0, from (0,3,0): 1
    ∷ dist_row (Cone (at 0 0 0) (at 0 2 0) f1 f0) (at 0 3 0) (pos 1)
    -- P9 sphere r 2 less sphere r 1, both at 0, from 0: 1
    ∷ float_row (piece_dist (less (ball 2) (ball 1)) (at 0 0 0)) f1
    -- P10 empty plan: f32::MAX, 0
    ∷ record {
      gives = nearest_hit (field_by 0 zero_table (seen zero_table) (at 0 0 0));
      wanted = nearest_hit (record { d = of_bits binary32 0x7f7f_ffff; mat = 0 });
    }
    -- P11 plane y = 0, ray (0,3,0) down, 0 to 10: hit at 3, count 2
    ∷ record {
      gives = met (trace_of over_floor (at 0 3 0) down f0 (whole (pos 10)));
      wanted = met (record { hit = Some (record { t = whole (pos 3); p = at 0 0 0; mat = 0 }); count = 2 });
    }
    -- P12 same, `tmax` 2: miss, count 1
    ∷ record {
      gives = met (trace_of over_floor (at 0 3 0) down f0 f2);
      wanted = met (record { hit = None; count = 1 });
    }
    -- P13 shadow with `tmin` = `tmax`: 1, count 0
    ∷ record {
      gives = shaded (shadow_of over_floor (at 0 3 0) down f1 f1 f2);
      wanted = shaded (record { vis = f1; count = 0 });
    }
    ∷ []

pub rows_hold : All Hold rows
unfolding whole of_int of_bits neg add sub mul div lt eq root_of fmin fmax clamp_of abs_of signum_of
    vsplat vadd vsub vscale vdot vlength vmax vabs
    sphere round_box plane capsule torus beyond cylinder_square cylinder_body cylinder
    cone_end cone_foot cone_sign cone_at cone_body cone dist_of
    cut_by carve piece_dist hit_of closer pieces_from nearest list_hit plan_of hit_by field_by list_from
    eps_of point_at stepped_of follow march trace_of seen_of cone_march shadow_of
rows_hold =
    (refl, (refl, (refl, (refl, (refl, (refl, (refl, (refl, (refl, (refl, (refl, (refl, (refl, (refl, tt))))))))))))))
