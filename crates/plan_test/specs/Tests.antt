-- "Each public call first tests what it will read, once: a broken plan gets the number that its entry would have got (2
-- for a bad count or cutter place, 1 for any other word no call leaves)." "Every call that is lent the plan tests its
-- four counts; where one is too high (2) nothing else of the plan is judged. Where a tested piece's number of cutters
-- or its place is bad, or their sum is above 1,024 (2), no cutter's words are judged; the pieces' own words are."
use Rattle.std.specs.Prelude.{ℕ, ◌+◌, Bool, true, false, cond, ◌&&◌, List, [], ◌∷◌, length, leb, eqb}
use Rattle.refusals.specs.Refusals.{no_room, lower, lowest_of}
use Rattle.plan.specs.declared.Head.{Head}
use Rattle.plan.specs.Sections.{cutter_places, cuts_most}
use Rattle.plan.specs.Sections as sections
use Rattle.plan.specs.Plan.{Piece, Plan}
use Rattle.plan_test.specs.declared.Tally.{Tally}
use Rattle.plan_test.specs.declared.Solids.{Solids}
use Rattle.record_test.specs.Numbers.{light_number, piece_own, piece_cuts}

unfoldable pub counts_ok : Plan → Bool
counts_ok p =
    leb (length p.materials) (sections.materials).most
    && (leb (length p.planes) (sections.planes).most
    && (leb (length p.lights) (sections.lights).most && leb (length p.objects) (sections.objects).most))

unfoldable pub cutters_of : List Piece → ℕ  -- how many cutters the pieces have together
cutters_of [] = 0
cutters_of (o ∷ os) = o.head.cutters + cutters_of os

-- "an object's place is the number of cutters of the objects before it; a plane's place is 1,024 less the cutters of
-- the planes up to and with it"
unfoldable pub place_ok : Bool → ℕ → Head → Bool
place_ok planes before h =
    leb h.cutters cuts_most
    && cond planes (eqb (h.place + (before + h.cutters)) cutter_places) (eqb h.place before)

unfoldable pub places_ok : Bool → ℕ → List Piece → Bool  -- the pieces' places, after pieces with so many cutters
places_ok planes before [] = true
places_ok planes before (o ∷ os) = place_ok planes before o.head && places_ok planes (before + o.head.cutters) os

unfoldable pub tally_of : Bool → ℕ → List Piece → Tally  -- what their own words get, places right, places used
tally_of planes materials os =
    record { number = lowest_of (piece_own planes materials) os; placed = places_ok planes 0 os; used = cutters_of os }

abbrev pub planes_tally : Plan → Tally
planes_tally p = tally_of true (length p.materials) p.planes

abbrev pub objects_tally : Plan → Tally
objects_tally p = tally_of false (length p.materials) p.objects

unfoldable pub objects_number : Plan → ℕ  -- the objects with their cutters
objects_number p =
    cond (counts_ok p)
    (lower (objects_tally p).number
    (cond ((objects_tally p).placed && leb (objects_tally p).used cutter_places) (lowest_of piece_cuts p.objects) no_room))
    no_room

abbrev pub solids_placed : Plan → Bool
solids_placed p =
    (planes_tally p).placed && ((objects_tally p).placed && leb ((planes_tally p).used + (objects_tally p).used) cutter_places)

unfoldable pub solids_of : Plan → Solids  -- planes and objects with their cutters, and the places that each list uses
solids_of p =
    cond (counts_ok p)
    (record {
      number =
          lower (lower (planes_tally p).number (objects_tally p).number)
          (cond (solids_placed p) (lower (lowest_of piece_cuts p.planes) (lowest_of piece_cuts p.objects)) no_room);
      planes = (planes_tally p).used;
      objects = (objects_tally p).used;
    })
    (record { number = no_room; planes = 0; objects = 0 })

unfoldable pub lit_number : Plan → ℕ  -- planes and objects with their cutters, and lights
lit_number p = cond (counts_ok p) (lower (solids_of p).number (lowest_of light_number p.lights)) no_room
