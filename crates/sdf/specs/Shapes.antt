-- "The seven kinds are source document 002's formulas": sdf.rs, each operation in the order written there.
use Rattle.std.specs.Prelude.{cond, ◌&&◌, Float}
use Rattle.std.specs.Float.Ieee.{neg, lt}
use Rattle.root.specs.Root.{root_of}
use Rattle.scalar.specs.F32.{◌⊕◌, ◌⊖◌, ◌⊗◌, ◌⊘◌, f0, fhalf, f1, f1e_12}
use Rattle.scalar.specs.Extremes.{fmin, fmax, clamp_of}
use Rattle.scalar.specs.Signs.{abs_of, signum_of}
use Rattle.vectors.specs.declared.Vec3.{Vec3}
use Rattle.vectors.specs.Vec.{vsplat, vsub, vscale, vdot, vlength, vmax, vabs}
use Rattle.sdf.specs.declared.Shape.{Shape}
use Rattle.sdf.specs.declared.Shape.TheVariants.{Sphere, RoundBox, Plane, Capsule, Torus, Cylinder, Cone}

abbrev pub tiny : Float
tiny = f1e_12

unfoldable pub sphere : Vec3 → Float → Vec3 → Float
sphere c r p = vlength (vsub p c) ⊖ r

abbrev pub round_box_at : Vec3 → Float → Float  -- q is |p - c| - (b - r)
round_box_at q r = vlength (vmax q (vsplat f0)) ⊕ fmin (fmax q.x (fmax q.y q.z)) f0 ⊖ r

unfoldable pub round_box : Vec3 → Vec3 → Float → Vec3 → Float
round_box c b r p = round_box_at (vsub (vabs (vsub p c)) (vsub b (vsplat r))) r

unfoldable pub plane : Vec3 → Float → Vec3 → Float
plane n h p = vdot p n ⊖ h

abbrev pub capsule_at : Vec3 → Vec3 → Float → Float
capsule_at pa ba r = vlength (vsub pa (vscale ba (clamp_of (vdot pa ba ⊘ vdot ba ba) f0 f1))) ⊖ r

unfoldable pub capsule : Vec3 → Vec3 → Float → Vec3 → Float
capsule a b r p = capsule_at (vsub p a) (vsub b a) r

abbrev pub torus_at : Vec3 → Float → Float → Float
torus_at q major minor = let xz = root_of (q.x ⊗ q.x ⊕ q.z ⊗ q.z) ⊖ major in root_of (xz ⊗ xz ⊕ q.y ⊗ q.y) ⊖ minor

unfoldable pub torus : Vec3 → Float → Float → Vec3 → Float
torus c major minor p = torus_at (vsub p c) major minor

unfoldable pub beyond : Float → Float → Float
beyond x square = cond (lt f0 x) square f0

unfoldable pub cylinder_square : Float → Float → Float → Float
cylinder_square x y baba =
    let x2 = x ⊗ x in
    let y2 = y ⊗ y ⊗ baba in
    cond (lt (fmax x y) f0) (neg (fmin x2 y2)) (beyond x x2 ⊕ beyond y y2)

unfoldable pub cylinder_body : Vec3 → Vec3 → Float → Float → Float
cylinder_body pa ba baba r =
    let paba = vdot pa ba in
    let x = vlength (vsub (vscale pa baba) (vscale ba paba)) ⊖ r ⊗ baba in
    let y = abs_of (paba ⊖ baba ⊗ fhalf) ⊖ baba ⊗ fhalf in
    let d = cylinder_square x y baba in
    signum_of d ⊗ root_of (abs_of d) ⊘ baba

unfoldable pub cylinder : Vec3 → Vec3 → Float → Vec3 → Float
cylinder a b r p =
    let ba = vsub b a in
    let baba = vdot ba ba in
    cond (lt baba tiny) (sphere a r p) (cylinder_body (vsub p a) ba baba r)

unfoldable pub cone_end : Float → Float → Float → Float
cone_end paba ra rb = cond (lt paba fhalf) ra rb

unfoldable pub cone_foot : Float → Float → Float → Float → Float → Float
cone_foot x paba baba ra rba = clamp_of ((rba ⊗ (x ⊖ ra) ⊕ paba ⊗ baba) ⊘ (rba ⊗ rba ⊕ baba)) f0 f1

unfoldable pub cone_sign : Float → Float → Float
cone_sign cbx cay = cond (lt cbx f0 && lt cay f0) (neg f1) f1

unfoldable pub cone_at : Float → Float → Float → Float → Float → Float
cone_at x paba baba ra rb =
    let rba = rb ⊖ ra in
    let cax = fmax f0 (x ⊖ cone_end paba ra rb) in
    let cay = abs_of (paba ⊖ fhalf) ⊖ fhalf in
    let f = cone_foot x paba baba ra rba in
    let cbx = x ⊖ ra ⊖ f ⊗ rba in
    let cby = paba ⊖ f in
    cone_sign cbx cay ⊗ root_of (fmin (cax ⊗ cax ⊕ cay ⊗ cay ⊗ baba) (cbx ⊗ cbx ⊕ cby ⊗ cby ⊗ baba))

unfoldable pub cone_body : Vec3 → Vec3 → Float → Float → Float → Float
cone_body pa ba baba ra rb =
    let paba = vdot pa ba ⊘ baba in
    cone_at (root_of (fmax (vdot pa pa ⊖ paba ⊗ paba ⊗ baba) f0)) paba baba ra rb

unfoldable pub cone : Vec3 → Vec3 → Float → Float → Vec3 → Float
cone a b ra rb p =
    let ba = vsub b a in
    let baba = vdot ba ba in
    cond (lt baba tiny) (sphere a (fmax ra rb) p) (cone_body (vsub p a) ba baba ra rb)

unfoldable pub dist_of : Shape → Vec3 → Float
dist_of (Sphere c r) p = sphere c r p
dist_of (RoundBox c b r) p = round_box c b r p
dist_of (Plane n h) p = plane n h p
dist_of (Capsule a b r) p = capsule a b r p
dist_of (Torus c major minor) p = torus c major minor p
dist_of (Cylinder a b r) p = cylinder a b r p
dist_of (Cone a b ra rb) p = cone a b ra rb p
