-- A quad's form factor, in the local frame of a point: the source's `clip_to_horizon` and `quad_form_factor`.
-- "`clip_to_horizon` has five places, and with corner heights below, at or above, below, at or above the horizon the
-- Rust faults on a sixth corner; here the clip ends with the five it has."
use Rattle.std.specs.Prelude.{Bool, cond, List, [], ◌∷◌, ◌++◌, map, take, Float}
use Rattle.std.specs.Bool.{beq}
use Rattle.std.specs.Float.Ieee.{neg, le, lt}
use Rattle.scalar.specs.F32.{◌⊕◌, ◌⊖◌, ◌⊗◌, ◌⊘◌, f0, f1, fturn, f1e_9}
use Rattle.scalar.specs.Extremes.{fmax, clamp_of}
use Rattle.scalar.specs.Acos.{acos_of}
use Rattle.vectors.specs.declared.Vec3.{Vec3}
use Rattle.vectors.specs.Vec.{vadd, vsub, vscale, vover, vdot, vcross, vlength}
use Rattle.quad.specs.declared.Quad.{Quad}

-- the clip: corners at or above the horizon, and where an edge crosses it
abbrev pub above : Vec3 → Bool
above a = le f0 a.z

unfoldable pub crossing_of : Vec3 → Vec3 → Vec3
crossing_of a b = vadd a (vscale (vsub b a) (a.z ⊘ (a.z ⊖ b.z)))

unfoldable pub clip_edge : Vec3 → Vec3 → List Vec3
clip_edge a b =
    cond (above a) (a ∷ []) [] ++ cond (beq (above a) (above b)) [] (crossing_of a b ∷ [])

unfoldable pub clipped : Quad → List Vec3  -- all that the four edges give, and the five that there are places for
clipped q =
    ((clip_edge q.v0 q.v1 ++ clip_edge q.v1 q.v2) ++ clip_edge q.v2 q.v3) ++ clip_edge q.v3 q.v0

unfoldable pub clip_of : Quad → List Vec3
clip_of q = take 5 (clipped q)

-- the sum over edges
unfoldable pub on_sphere : Vec3 → Vec3  -- "Corners no longer than 1e-9 stay as they are."
on_sphere v = cond (lt f1e_9 (vlength v)) (vover v (vlength v)) v

unfoldable pub edge_sum : Float → Vec3 → Vec3 → Float
edge_sum s a b =
    let cross = vcross a b in
    cond (lt f1e_9 (vlength cross)) (s ⊕ acos_of (clamp_of (vdot a b) (neg f1) f1) ⊗ (cross.z ⊘ vlength cross)) s

-- edges from corner to corner, and from the last to the first
unfoldable pub ring_from : Vec3 → List Vec3 → Float → Float
ring_from first [] s = s
ring_from first (a ∷ []) s = edge_sum s a first
ring_from first (a ∷ b ∷ vs) s = ring_from first (b ∷ vs) (edge_sum s a b)

unfoldable pub ring_of : List Vec3 → Float  -- fewer than three corners give nothing
ring_of [] = f0
ring_of (a ∷ []) = f0
ring_of (a ∷ b ∷ []) = f0
ring_of (a ∷ b ∷ c ∷ vs) = ring_from (on_sphere a) (map on_sphere (a ∷ b ∷ c ∷ vs)) f0

unfoldable pub form_factor_of : Quad → Float
form_factor_of q = fmax (ring_of (clip_of q) ⊗ fturn) f0
