-- A plan with one record more at the end of its list.
use Rattle.std.specs.Prelude.{[], ◌∷◌, ◌++◌}
use Rattle.plan.specs.declared.Material.{Material}
use Rattle.plan.specs.declared.QuadLight.{QuadLight}
use Rattle.plan.specs.Plan.{Piece, Plan}

abbrev pub with_material : Plan → Material → Plan
with_material p m =
    record { materials = p.materials ++ (m ∷ []); planes = p.planes; lights = p.lights; objects = p.objects }

abbrev pub with_plane : Plan → Piece → Plan
with_plane p o =
    record { materials = p.materials; planes = p.planes ++ (o ∷ []); lights = p.lights; objects = p.objects }

abbrev pub with_light : Plan → QuadLight → Plan
with_light p l =
    record { materials = p.materials; planes = p.planes; lights = p.lights ++ (l ∷ []); objects = p.objects }

abbrev pub with_object : Plan → Piece → Plan
with_object p o =
    record { materials = p.materials; planes = p.planes; lights = p.lights; objects = p.objects ++ (o ∷ []) }
