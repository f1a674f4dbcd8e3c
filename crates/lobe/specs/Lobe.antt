-- The specular part: the source's representative point and lobe. "Where the computed length from shading point to
-- representative point is 0, that light gives no specular part."
use Rattle.std.specs.Prelude.{cond, Float}
use Rattle.std.specs.Float.Ieee.{le, lt, eq}
use Rattle.scalar.specs.F32.{◌⊕◌, ◌⊗◌, ◌⊘◌, f0, f1, f2, f1e_3, f1e_4, f1e_6}
use Rattle.scalar.specs.Extremes.{fmax, clamp_of}
use Rattle.scalar.specs.Signs.{abs_of}
use Rattle.vectors.specs.declared.Vec3.{Vec3}
use Rattle.vectors.specs.Vec.{vadd, vsub, vmul, vscale, vneg, vdot, vlength, vnormalize}
use Rattle.plan.specs.declared.Material.{Material}
use Rattle.quad.specs.Meets.{closest_of}
use Rattle.bsdf.specs.Bsdf.{fresnel_of, d_ggx_of, v_smith_of, f0_of, diffuse_albedo_of}
use Rattle.panel.specs.declared.Panel.{Panel}
use Rattle.reach.specs.declared.Site.{Site}
use Rattle.lobe.specs.declared.View.{View}

unfoldable pub view_of : Vec3 → Vec3 → Material → View
view_of n v m =
    record {
      v = v;
      nv = fmax (vdot n v) f1e_4;
      alpha = fmax (m.roughness ⊗ m.roughness) f1e_3;
      f0 = f0_of m.albedo m.metallic;
      kd = diffuse_albedo_of m.albedo m.metallic;
    }

-- the representative point
unfoldable pub mirror_of : Vec3 → Vec3 → Vec3
mirror_of n v = vsub (vneg v) (vscale n (f2 ⊗ vdot n (vneg v)))

-- the panel's point nearest to where r meets its plane at t, where that lies ahead; else its centre
unfoldable pub toward_of : Vec3 → Panel → Vec3 → Float → Vec3
toward_of p a r t = cond (lt f0 t) (closest_of a.quad (vadd p (vscale r t))) a.center

abbrev pub rep_along : Vec3 → Panel → Vec3 → Vec3
rep_along p a r =
    let denom = vdot r a.normal in
    cond (lt f1e_6 (abs_of denom)) (toward_of p a r (vdot (vsub a.quad.v0 p) a.normal ⊘ denom)) a.center

unfoldable pub rep_of : Site → Vec3 → Panel → Vec3
rep_of s v a = rep_along s.p a (mirror_of s.n v)

unfoldable pub wide_of : Float → Float → Float → Float  -- the lobe about the direction l, where n · l is nl
wide_of alpha radius dist = clamp_of (alpha ⊕ radius ⊘ (f2 ⊗ fmax dist f1e_4)) alpha f1

unfoldable pub lobe_of : View → Vec3 → Vec3 → Float → Float → Vec3
lobe_of w n l nl wide =
    let energy = w.alpha ⊘ wide ⊗ (w.alpha ⊘ wide) in
    let h = vnormalize (vadd l w.v) in
    let d = d_ggx_of (fmax (vdot n h) f0) wide in
    vscale (fresnel_of (fmax (vdot l h) f0) w.f0) (d ⊗ v_smith_of w.nv nl wide ⊗ energy ⊗ nl)

-- `out` with the lobe toward `to`, none where that has no length or lies behind
unfoldable pub gloss_of : View → Vec3 → Vec3 → Float → Vec3 → Vec3 → Vec3
gloss_of w n to radius radiance out =
    let l = vnormalize to in
    cond (eq (vlength to) f0) out
    (cond (le (vdot n l) f0) out
    (vadd out (vmul (lobe_of w n l (vdot n l) (wide_of w.alpha radius (vlength to))) radiance)))
