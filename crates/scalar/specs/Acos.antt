-- "Arc cosine, for x from -1 to 1: for x >= 0 it is root(1-x) times the polynomial of degree seven of Abramowitz and
-- Stegun 4.4.46, by Horner from the top, coefficients each the nearest f32; for x < 0, pi's f32 less the value at -x."
use Rattle.std.specs.Prelude.{cond, Float}
use Rattle.std.specs.Float.{binary32}
use Rattle.std.specs.Float.Ieee.{of_bits, neg, le}
use Rattle.root.specs.Root.{root_of}
use Rattle.scalar.specs.F32.{◌⊕◌, ◌⊖◌, ◌⊗◌, f0, f1, fpi}

abbrev pub a0 : Float  -- 1.5707963050
a0 = of_bits binary32 0x3fc9_0fda

abbrev pub a1 : Float  -- -0.2145988016
a1 = neg (of_bits binary32 0x3e5b_bfca)

abbrev pub a2 : Float  -- 0.0889789874
a2 = of_bits binary32 0x3db6_3a9e

abbrev pub a3 : Float  -- -0.0501743046
a3 = neg (of_bits binary32 0x3d4d_8392)

abbrev pub a4 : Float  -- 0.0308918810
a4 = of_bits binary32 0x3cfd_10f8

abbrev pub a5 : Float  -- -0.0170881256
a5 = neg (of_bits binary32 0x3c8b_fc66)

abbrev pub a6 : Float  -- 0.0066700901
a6 = of_bits binary32 0x3bda_90c5

abbrev pub a7 : Float  -- -0.0012624911
a7 = neg (of_bits binary32 0x3aa5_7a2c)

unfoldable pub poly : Float → Float
poly x = ((((((a7 ⊗ x ⊕ a6) ⊗ x ⊕ a5) ⊗ x ⊕ a4) ⊗ x ⊕ a3) ⊗ x ⊕ a2) ⊗ x ⊕ a1) ⊗ x ⊕ a0

unfoldable pub side : Float → Float
unfolding poly
side x = root_of (f1 ⊖ x) ⊗ poly x

unfoldable pub acos_of : Float → Float
unfolding side
acos_of x = cond (le f0 x) (side x) (fpi ⊖ side (neg x))
