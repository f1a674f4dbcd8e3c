-- "Numbers sent back. Each number is tested only where it applies; where several apply the lowest is sent."
use Rattle.std.specs.Prelude.{ℕ, min, Bool, cond, List, [], ◌∷◌, eqb}
use Rattle.words.specs.Lists.{list_from}

abbrev pub done : ℕ
done = 0

abbrev pub bad_number : ℕ  -- a number is not finite or outside its range, or a kind is unknown
bad_number = 1

abbrev pub no_room : ℕ  -- a list, the 8 or the 1,024 would be exceeded, or a lent table is short of its full size
no_room = 2

abbrev pub no_material : ℕ  -- the material number is not present
no_material = 3

-- a capsule's computed `ba.dot(ba)` is 0; a light's `e1.dot(e1)`, `e2.dot(e2)` or length of `e1` x `e2` is 0
abbrev pub no_extent : ℕ
no_extent = 4

abbrev pub wrong_list : ℕ  -- a plane among objects, or another kind among planes
wrong_list = 5

abbrev pub bad_tree : ℕ  -- an offered tree breaks a tree rule other than depth
bad_tree = 6

abbrev pub too_deep : ℕ  -- a built or offered tree meets all but depth
too_deep = 7

abbrev pub no_tree : ℕ  -- a tree is needed and none stands for the present objects
no_tree = 8

abbrev pub at_light : ℕ  -- the computed length from shading point to some light's centre is 0
at_light = 9

unfoldable pub unless : ℕ → Bool → ℕ  -- the number n, unless what it tests is in order
unless n ok = cond ok done n

unfoldable pub lower : ℕ → ℕ → ℕ  -- the lowest wins
lower a b = cond (eqb a done) b (cond (eqb b done) a (min a b))

unfoldable pub lowest_of : {A : Type 0} → (A → ℕ) → List A → ℕ  -- the lowest of what each of a list gets
lowest_of number [] = done
lowest_of number (x ∷ xs) = lower (number x) (lowest_of number xs)

abbrev pub lowest_in : (ℕ → ℕ) → ℕ → ℕ  -- of what each of the first n gets
lowest_in number n = lowest_of number (list_from (λ i. i) 0 n)
