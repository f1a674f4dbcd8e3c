-- "The builder follows `build_recursive`, and the count of the range it works on falls at each call." The boxes of
-- objects are bs, a range is a list of object numbers; what is built is a tree and the order that its leaves stand for.
use Rattle.std.specs.Prelude.{ℕ, zero, suc, cond, List, ◌++◌, length, take, drop}
use Rattle.sdf.specs.declared.Aabb.{Aabb}
use Rattle.bvh_rules.specs.Rules.{Tree, leaf, node}
use Rattle.bvh_range.specs.declared.Span.{Span}
use Rattle.bvh_range.specs.Range.{span_of, extent_of, stops}
use Rattle.bvh_split.specs.Part.{cut_of}

pub record TreeOrder : Type 0 where
  pub tree : Tree
  pub order : List ℕ

pub data Way : Type 0 where  -- a leaf, or two parts
  stop : Way
  halves : ℕ → List ℕ → Way

abbrev pub way_by : List Aabb → List ℕ → Span → Way
way_by bs os s =
    cond (stops (length os) (extent_of s.centres)) stop
    (halves (cut_of bs os s.centres).mid (cut_of bs os s.centres).order)

unfoldable pub way_of : List Aabb → List ℕ → Way
way_of bs os = way_by bs os (span_of bs os)

abbrev pub leaf_of : List Aabb → List ℕ → TreeOrder
leaf_of bs os = record { tree = leaf (span_of bs os).hull (length os); order = os }

abbrev pub joined : Aabb → TreeOrder → TreeOrder → TreeOrder
joined b l r = record { tree = node b l.tree r.tree; order = l.order ++ r.order }

abbrev pub on_way : Way → TreeOrder → (ℕ → List ℕ → TreeOrder) → TreeOrder
on_way stop m f = m
on_way (halves mid os) m f = f mid os

unfoldable pub build_from : ℕ → List Aabb → List ℕ → TreeOrder  -- with so many calls left: one an object is enough
build_from zero bs os = leaf_of bs os
build_from (suc k) bs os =
    on_way (way_of bs os) (leaf_of bs os)
    (λ mid parts. joined (span_of bs os).hull (build_from k bs (take mid parts)) (build_from k bs (drop mid parts)))

unfoldable pub build_of : List Aabb → List ℕ → TreeOrder
build_of bs os = build_from (length os) bs os
