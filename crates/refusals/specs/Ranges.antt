-- "Every given number is finite. Magnitudes: coordinates, radii, blend and `h` to 10,000 (radii, half sizes and blend
-- not negative); a plane's normal, ray directions, shading normals and views to 1.5 a component; ray origins to 20,000;
-- query points to 200,000; shading points to 10,000. `tmin`, `tmax` 0 to 100,000; `k` 0 to 1,000; Fresnel cosines to
-- 10. 10,000 is taken; the next float up is refused." That the limits are these numbers is shown in proofs/Limits.
use Rattle.std.specs.Prelude.{Bool, ◌&&◌, Float}
use Rattle.std.specs.Float.{binary32}
use Rattle.std.specs.Float.Ieee.{of_bits}
use Rattle.scalar.specs.F32.{f0}
use Rattle.scalar.specs.Ranges.{between, magnitude}
use Rattle.vectors.specs.declared.Vec3.{Vec3}

abbrev pub far : Float  -- 10,000
far = of_bits binary32 0x461c_4000

abbrev pub steep : Float  -- 1.5
steep = of_bits binary32 0x3fc0_0000

abbrev pub farther : Float  -- 20,000
farther = of_bits binary32 0x469c_4000

abbrev pub farthest : Float  -- 200,000
farthest = of_bits binary32 0x4843_5000

abbrev pub longest : Float  -- 100,000
longest = of_bits binary32 0x47c3_5000

abbrev pub sharpest : Float  -- 1,000
sharpest = of_bits binary32 0x447a_0000

abbrev pub widest : Float  -- 10
widest = of_bits binary32 0x4120_0000

abbrev pub greatest : Float  -- f32::MAX
greatest = of_bits binary32 0x7f7f_ffff

unfoldable pub up_to : Float → Float → Bool
up_to x most = between f0 x most

unfoldable pub within : Vec3 → Float → Bool
within v most = magnitude v.x most && (magnitude v.y most && magnitude v.z most)

unfoldable pub within_up_to : Vec3 → Float → Bool
within_up_to v most = up_to v.x most && (up_to v.y most && up_to v.z most)

unfoldable pub coordinates : Vec3 → Bool
coordinates v = within v far

unfoldable pub radius : Float → Bool  -- a radius or a blend
radius x = up_to x far
