-- The words that an entry leaves. Arguments stand after the plan, a piece in their first row, its cutters in the next.
use Rattle.std.specs.Prelude.{ℕ, zero, suc, ◌+◌, ◌*◌, Bool, cond, ◌||◌, List, [], ◌∷◌, set, ltb, eqb}
use Rattle.std.proofs.lemmas.List.Edits.{sets}
use Rattle.words.specs.Lists.{list_from}
use Rattle.plan.specs.Sections.{Section, materials, planes, lights, objects, cutter_row, args_row}
use Rattle.plan.specs.Records.{word_of}
use Rattle.plan.specs.Plan.{count_of}

abbrev pub arg_word : List ℕ → ℕ → ℕ  -- word k of the arguments
arg_word w k = word_of w (16 * args_row + k)

abbrev pub arg_cuts : List ℕ → ℕ  -- how many cutters a piece in the arguments says that it has
arg_cuts w = arg_word w 2

abbrev pub section_of : Bool → Section  -- planes, or objects
section_of among = cond among planes objects

-- "Words that a kind does not use are written 0": spheres and planes have 4, tori 5, cones 8, the others 7
unfoldable pub used_words : ℕ → ℕ
used_words k = cond (eqb k 0 || eqb k 2) 4 (cond (eqb k 4) 5 (cond (eqb k 6) 8 7))

unfoldable pub used_word : List ℕ → ℕ → ℕ → ℕ → ℕ  -- word j of a primitive's eight, whose first is word i
used_word w i kind j = cond (ltb j (used_words kind)) (word_of w (i + j)) 0

abbrev pub eight_words : List ℕ → ℕ → ℕ → List ℕ → List ℕ
eight_words w i kind rest =
    used_word w i kind 0 ∷ used_word w i kind 1 ∷ used_word w i kind 2 ∷ used_word w i kind 3
    ∷ used_word w i kind 4 ∷ used_word w i kind 5 ∷ used_word w i kind 6 ∷ used_word w i kind 7 ∷ rest

abbrev pub piece_words : List ℕ → ℕ → List ℕ
piece_words w place =
    arg_word w 0 ∷ arg_word w 1 ∷ arg_word w 2 ∷ arg_word w 3
    ∷ eight_words w (16 * args_row + 4) (arg_word w 3) (place ∷ 0 ∷ 0 ∷ 0 ∷ [])

abbrev pub cutter_words : List ℕ → ℕ → List ℕ  -- the cutter in row r
cutter_words w r = word_of w (16 * r) ∷ eight_words w (16 * r + 1) (word_of w (16 * r)) (0 ∷ 0 ∷ 0 ∷ 0 ∷ 0 ∷ 0 ∷ 0 ∷ [])

unfoldable pub first_word : List ℕ → ℕ → ℕ → ℕ  -- the first n words of the arguments, and zeros to sixteen
first_word w n k = cond (ltb k n) (arg_word w k) 0

abbrev pub record_words : List ℕ → ℕ → List ℕ
record_words w n = list_from (first_word w n) 0 16

unfoldable pub put_row : List ℕ → ℕ → List ℕ → List ℕ  -- a row of the plan
put_row w r words = cond (ltb r args_row) (sets w (16 * r) words) w

unfoldable pub put_cutters : List ℕ → ℕ → ℕ → List ℕ  -- the first n cutters of the arguments, from a place on
put_cutters w place zero = w
put_cutters w place (suc j) = put_row (put_cutters w place j) (cutter_row + place + j) (cutter_words w (args_row + 1 + j))

unfoldable pub one_more : ℕ → ℕ  -- a count with one more: an entry's is below 256
one_more n = cond (ltb n 256) (n + 1) n

unfoldable pub with_piece : Bool → List ℕ → ℕ → List ℕ
with_piece among w place =
    set (put_row (put_cutters w place (arg_cuts w)) ((section_of among).first + count_of (section_of among) w)
    (piece_words w place)) (section_of among).count (one_more (count_of (section_of among) w))

unfoldable pub with_material_words : List ℕ → List ℕ
with_material_words w =
    set (put_row w (materials.first + count_of materials w) (record_words w 5)) materials.count
    (one_more (count_of materials w))

unfoldable pub with_light_words : List ℕ → List ℕ  -- a light takes two rows
with_light_words w =
    set (put_row (put_row w (lights.first + 2 * count_of lights w) (record_words w 15))
    (lights.first + 2 * count_of lights w + 1) (record_words w 0)) lights.count (one_more (count_of lights w))
