-- "f32, each operation rounded once, never fused." The four operations as operators, and the constants by their bits,
-- each with its decimal. That each constant is the f32 nearest to its decimal is a theorem of proofs/Nearest.antt.
use Rattle.std.specs.Prelude.{Float}
use Rattle.std.specs.Float.{binary32}
use Rattle.std.specs.Float.Ieee.{add, sub, mul, div, of_bits}

infixl 60 ◌⊕◌
infixl 60 ◌⊖◌
infixl 70 ◌⊗◌
infixl 70 ◌⊘◌
abbrev pub ◌⊕◌ : Float → Float → Float
a ⊕ b = add binary32 a b

abbrev pub ◌⊖◌ : Float → Float → Float
a ⊖ b = sub binary32 a b

abbrev pub ◌⊗◌ : Float → Float → Float
a ⊗ b = mul binary32 a b

abbrev pub ◌⊘◌ : Float → Float → Float
a ⊘ b = div binary32 a b

abbrev pub f0 : Float
f0 = of_bits binary32 0

abbrev pub fhalf : Float  -- 0.5
fhalf = of_bits binary32 0x3f00_0000

abbrev pub f1 : Float
f1 = of_bits binary32 0x3f80_0000

abbrev pub fpi : Float  -- pi
fpi = of_bits binary32 0x4049_0fdb

abbrev pub f2 : Float
f2 = of_bits binary32 0x4000_0000

abbrev pub f12 : Float
f12 = of_bits binary32 0x4140_0000

abbrev pub f96 : Float
f96 = of_bits binary32 0x42c0_0000

abbrev pub fquarter : Float  -- 0.25
fquarter = of_bits binary32 0x3e80_0000

abbrev pub f1·25 : Float
f1·25 = of_bits binary32 0x3fa0_0000

abbrev pub f1·5 : Float
f1·5 = of_bits binary32 0x3fc0_0000

abbrev pub f0·006 : Float
f0·006 = of_bits binary32 0x3bc4_9ba6

abbrev pub f0·015 : Float
f0·015 = of_bits binary32 0x3c75_c28f

abbrev pub f0·04 : Float
f0·04 = of_bits binary32 0x3d23_d70a

abbrev pub f0·05 : Float
f0·05 = of_bits binary32 0x3d4c_cccd

abbrev pub f0·12 : Float
f0·12 = of_bits binary32 0x3df5_c28f

abbrev pub fturn : Float  -- 0.15915494: one by two pi
fturn = of_bits binary32 0x3e22_f983

abbrev pub f1e20 : Float
f1e20 = of_bits binary32 0x60ad_78ec

abbrev pub f3e_3 : Float
f3e_3 = of_bits binary32 0x3b44_9ba6

abbrev pub f1e_3 : Float
f1e_3 = of_bits binary32 0x3a83_126f

abbrev pub f1e_4 : Float
f1e_4 = of_bits binary32 0x38d1_b717

abbrev pub f1e_6 : Float
f1e_6 = of_bits binary32 0x3586_37bd

abbrev pub f1e_9 : Float
f1e_9 = of_bits binary32 0x3089_705f

abbrev pub f1e_12 : Float
f1e_12 = of_bits binary32 0x2b8c_bccc
