-- The root grows on all whose sign is clear, the infinity included. By the cases of a value, from the law for finite
-- ones. Assumes nothing.
use mathlib.Core.Path.{◌≡◌, refl}
use mathlib.Core.Bool.{true, false}
use lib.Dec.{T}
use Prim.Native.Nat.{zero, suc}
use lib.Ieee.{Float, nan, inf, fin, binary32, le, fits}
use lib.Ieee.Fits.{nan-fits}
use lib.Ieee.Bits.{of_bits-fits}
use lib.Ieee.Scale.{finite}
use Rattle.root.specs.Root.{plain, root_of}
use Rattle.root.proofs.Laws.{root_plain}
use Rattle.root.proofs.Order.{root_grows}
use Rattle.float_order.specs.Inside.Order.{number, clear}
use Rattle.float_order.proofs.Order.{le_top, top_le}

-- what the laws of the root ask for
pub plain_of : (x : Float) → T (fits binary32 x) → T (finite x) → T (clear x) → T (plain x)
plain_of nan f l c = absurd l
plain_of (inf s) f l c = absurd l
plain_of (fin true m e) f l c = absurd c
plain_of (fin false m e) f l c = f

pub plain_number : (x : Float) → T (plain x) → T (number x)
plain_number nan h = absurd h
plain_number (inf s) h = absurd h
plain_number (fin s m e) h = tt

pub root_top : root_of (inf false) ≡ inf false
unfolding root_of
root_top = refl

-- what has a finite root is a number
pub rooted_number : (x : Float) → T (finite (root_of x)) → T (number x)
unfolding root_of
rooted_number nan h = absurd h
rooted_number (inf s) h = tt
rooted_number (fin s m e) h = tt

pub root_fits : (x : Float) → T (fits binary32 x) → T (fits binary32 (root_of x))
unfolding root_of
root_fits nan h = h
root_fits (inf true) h = nan-fits binary32
root_fits (inf false) h = h
root_fits (fin s zero e) h = h
root_fits (fin true (suc m) e) h = nan-fits binary32
root_fits (fin false (suc m) e) h = of_bits-fits binary32 _

pub root_mono
    : (x y : Float) → T (fits binary32 x) → T (fits binary32 y) → T (clear x) → T (clear y) → T (le x y)
    → T (le (root_of x) (root_of y))
root_mono nan y f g c d h = absurd c
root_mono (inf true) y f g c d h = absurd c
root_mono (inf false) y f g c d h = rw (top_le y h, root_top) (le_top (inf false) tt)
root_mono (fin true m e) y f g c d h = absurd c
root_mono (fin false m e) nan f g c d h = absurd d
root_mono (fin false m e) (inf true) f g c d h = absurd d
root_mono (fin false m e) (inf false) f g c d h =
    rw root_top (le_top (root_of (fin false m e)) (plain_number (root_of (fin false m e)) (root_plain (fin false m e) f)))
root_mono (fin false m e) (fin true n k) f g c d h = absurd d
root_mono (fin false m e) (fin false n k) f g c d h = root_grows (fin false m e) (fin false n k) f g h
