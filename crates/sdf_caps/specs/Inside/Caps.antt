-- Parts of a cylinder's distance and of a cone's: from what their roots are taken of, and what bounds it from below.
use Rattle.std.specs.Prelude.{◌≡◌, cond, T, Float}
use Rattle.std.specs.Float.Ieee.{neg, lt, le}
use Rattle.root.specs.Root.{root_of}
use Rattle.scalar.specs.F32.{◌⊕◌, ◌⊖◌, ◌⊗◌, ◌⊘◌, f0, fhalf, f1}
use Rattle.scalar.specs.Extremes.{fmin, fmax}
use Rattle.scalar.specs.Signs.{abs_of, signum_of}
use Rattle.sdf.specs.Shapes.{beyond, cylinder_square, cone_end, cone_foot, cone_sign}
use Rattle.float_order.specs.Inside.Order.{number}

abbrev pub outside : Float → Float  -- the square of how far x is above zero
outside x = beyond x (x ⊗ x)

-- `cylinder_square`, the square y2 of y and what of it is outside worked out before
abbrev pub signed_square : Float → Float → Float → Float → Float
signed_square x y y2 by = cond (lt (fmax x y) f0) (neg (fmin (x ⊗ x) y2)) (outside x ⊕ by)

abbrev pub rooted : Float → Float → Float  -- the distance from its signed square
rooted d baba = signum_of d ⊗ root_of (abs_of d) ⊘ baba

-- `cylinder_body` from the square q of the way to the axis, times baba, and the radius times baba
abbrev pub cylinder_at : Float → Float → Float → Float → Float
cylinder_at q y baba rb = rooted (cylinder_square (root_of q ⊖ rb) y baba) baba

-- ---- cone
abbrev pub sq : Float → Float
sq x = x ⊗ x

abbrev pub lesser : Float → Float → Float
lesser a b = cond (lt a b) a b

abbrev pub not_below : Float → Float  -- x where it is not below zero
not_below x = cond (lt x f0) f0 x

abbrev pub past_end : Float → Float  -- how far past the nearer end, in lengths of the axis
past_end paba = cond (lt paba fhalf) (neg (paba ⊖ f0)) (paba ⊖ f1)

abbrev pub cay_of : Float → Float
cay_of paba = abs_of (paba ⊖ fhalf) ⊖ fhalf

abbrev pub cbx_at : Float → Float → Float → Float → Float  -- how far from the slanted side at the place f of it
cbx_at x ra rba f = x ⊖ ra ⊖ f ⊗ rba

-- the square of the distance, from the radial distance x
abbrev pub cone_square : Float → Float → Float → Float → Float → Float → Float → Float
cone_square x paba cay baba ra rb rba =
    let f = cone_foot x paba baba ra rba in
    fmin (sq (fmax f0 (x ⊖ cone_end paba ra rb)) ⊕ sq cay ⊗ baba) (sq (cbx_at x ra rba f) ⊕ sq (paba ⊖ f) ⊗ baba)

-- `cone_at`, cay and rba worked out before
abbrev pub cone_by : Float → Float → Float → Float → Float → Float → Float → Float
cone_by x paba cay baba ra rb rba =
    cone_sign (cbx_at x ra rba (cone_foot x paba baba ra rba)) cay ⊗ root_of (cone_square x paba cay baba ra rb rba)

-- e bounds from below what a point's place along the axis adds to both squares
pub record Ends (paba cay e : Float) : Type 0 where
  pub cap : T (number cay) → T (le (sq e) (sq cay))
  pub side : (f : Float) → T (le f0 f) → T (le f f1) → T (number (paba ⊖ f)) → T (le (sq e) (sq (paba ⊖ f)))
  pub none : T (lt cay f0) → e ≡ f0

pub record Sides (x ra rb rba z : Float) : Type 0 where  -- z bounds from below what its distance from the axis adds
  pub first : T (le (sq z) (sq (fmax f0 (x ⊖ ra))))
  pub last : T (le (sq z) (sq (fmax f0 (x ⊖ rb))))
  pub side
      : (f : Float) → T (le f0 f) → T (le f f1) → T (number (cbx_at x ra rba f))
      → T (le (sq z) (sq (cbx_at x ra rba f)))
  pub none : (f : Float) → T (le f0 f) → T (le f f1) → T (lt (cbx_at x ra rba f) f0) → z ≡ f0
