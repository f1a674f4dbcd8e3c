-- The surface's part of light, as the source's shade.rs has it.
use Rattle.std.specs.Prelude.{Float}
use Rattle.root.specs.Root.{root_of}
use Rattle.scalar.specs.F32.{◌⊕◌, ◌⊖◌, ◌⊗◌, ◌⊘◌, f0, fhalf, f1, fpi, f0·04, f1e_9}
use Rattle.scalar.specs.Extremes.{fmax, clamp_of}
use Rattle.vectors.specs.declared.Vec3.{Vec3}
use Rattle.vectors.specs.Vec.{vsplat, vadd, vsub, vscale, vlerp}

unfoldable pub fresnel_of : Float → Vec3 → Vec3  -- Schlick's: r is the reflectance straight on
fresnel_of c r =
    let m = clamp_of (f1 ⊖ c) f0 f1 in
    let m2 = m ⊗ m in
    vadd r (vscale (vsub (vsplat f1) r) (m2 ⊗ m2 ⊗ m))

unfoldable pub d_ggx_of : Float → Float → Float  -- the GGX distribution, at the cosine h of the half vector
d_ggx_of h alpha =
    let a2 = alpha ⊗ alpha in
    let d = h ⊗ h ⊗ (a2 ⊖ f1) ⊕ f1 in
    a2 ⊘ fmax (fpi ⊗ d ⊗ d) f1e_9

unfoldable pub smith_part : Float → Float → Float → Float
smith_part x y a2 = x ⊗ root_of (y ⊗ y ⊗ (f1 ⊖ a2) ⊕ a2)

-- Smith's visibility, at the cosines v of the view and l of the light
unfoldable pub v_smith_of : Float → Float → Float → Float
v_smith_of v l alpha =
    let a2 = alpha ⊗ alpha in
    fhalf ⊘ fmax (smith_part l v a2 ⊕ smith_part v l a2) f1e_9

unfoldable pub f0_of : Vec3 → Float → Vec3
f0_of albedo metallic = vlerp (vsplat f0·04) albedo metallic

unfoldable pub diffuse_albedo_of : Vec3 → Float → Vec3
diffuse_albedo_of albedo metallic = vscale albedo (f1 ⊖ metallic)
