-- A run that is taken: a material, then a ball less a smaller one, by computation on its words. Assumes nothing.
use Prim.Native.Nat.{ℕ}
use native.Mathlib.Omega.{arith}
use mathlib.Core.Path.{◌≡◌, refl, subst}
use mathlib.Core.Bool.{false, cond}
use mathlib.Core.List.{[], ◌∷◌}
use lib.Dec.{eqb}
use lib.Ieee.{Float, of_bits, neg, le}
use Rattle.scalar.specs.F32.{f0, f1, fhalf}
use Rattle.scalar.specs.Ranges.{between, magnitude}
use Rattle.sdf.specs.declared.Shape.{Shape}
use Rattle.sdf.specs.declared.Shape.TheVariants.{Sphere}
use Rattle.words.specs.Lists.{list_from}
use Rattle.refusals.specs.Ranges.{up_to, within, coordinates, radius}
use Rattle.refusals.specs.Prims.{shape_of, shape_ok, flat}
use Rattle.plan.specs.Plan.{Piece, Plan}
use Rattle.plan.specs.With.{with_material, with_object}
use Rattle.plan_test.specs.Tests.{cutters_of}
use Rattle.promises.specs.Demand1.{empty_plan}
use Rattle.promises.proofs.Cases.{either}
use Rattle.promises.proofs.Demand1.Small.{Small}
use Rattle.promises.proofs.Demand1.Given.{piece_by}
use Rattle.promises.proofs.Demand1.Reached.{Reached, plain_material, reach_none, reach_material, Comes}
use Rattle.promises.proofs.Demand1.Reached.{reach_object}

abbrev ball_of : Float → Shape
ball_of r = Sphere (record { x = f0; y = f0; z = f0 }) r

-- its words: one cutter, the ball's radius, and the cutter's in the next row; all others are 0
abbrev word : ℕ → ℕ
word k = cond (eqb k 2) 1 (cond (eqb k 7) 0x3f80_0000 (cond (eqb k 20) 0x3f00_0000 0))

witness_small : (k : ℕ) → Small (word k)
witness_small k =
    either Small (eqb k 2) _ _ (omega arith)
    (either Small (eqb k 7) _ _ (omega arith) (either Small (eqb k 20) _ _ (omega arith) (omega arith)))

abbrev pub cut_ball : Piece
cut_ball =
    record {
      head = record { material = 0; blend = f0; cutters = 1; kind = 0; shape = ball_of f1; place = 0 };
      cuts = record { kind = 0; shape = ball_of fhalf } ∷ [];
    }

abbrev one_material : Plan
one_material = with_material empty_plan plain_material

comes : Comes false one_material word
unfolding list_from shape_of shape_ok flat coordinates within magnitude radius up_to between le neg of_bits cutters_of
comes =
    record {
      small = witness_small;
      ok =
          record {
            own =
                record {
                  prim = record { known = omega arith; ranges = tt; extent = refl };
                  blend = tt;
                  material = omega arith;
                  list = refl;
                };
            few = omega arith;
            cuts = (record { known = omega arith; ranges = tt; extent = refl }, tt);
          };
      at = refl;
      count = omega arith;
      room = omega arith;
    }

piece_is : piece_by word ≡ cut_ball
unfolding list_from shape_of
piece_is = refl

pub witness : Reached (with_object one_material cut_ball)
witness =
    subst (λ (o : Piece). Reached (with_object one_material o)) piece_is
    (reach_object (reach_material reach_none (omega arith)) word comes)
