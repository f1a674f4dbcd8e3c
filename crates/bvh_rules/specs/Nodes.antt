-- "A node is lo x y z, hi x y z, start, count, right": of words (w) and floats (f); nodes and order of a call's table.
use Rattle.std.specs.Prelude.{ℕ, ◌+◌, ◌*◌, List, take, drop, Float}
use Rattle.sdf.specs.declared.Aabb.{Aabb}
use Rattle.plan.specs.Sections.{nodes_first, nodes_words, order_first, order_places}
use Rattle.plan.specs.Records.{word_of, float_of}
use Rattle.bvh_rules.specs.declared.Node.{Node}

abbrev pub nodes_most : ℕ  -- how many nodes there may be
nodes_most = 511

unfoldable pub nodes_of : {A : Type 0} → List A → List A  -- of a call's table
nodes_of t = take nodes_words (drop nodes_first t)

unfoldable pub order_of : {A : Type 0} → List A → List A
order_of t = take order_places (drop order_first t)

unfoldable pub node_at : List ℕ → List Float → ℕ → Node
node_at w f at =
    record {
      hull = record {
        lo = record { x = float_of f (9 * at); y = float_of f (9 * at + 1); z = float_of f (9 * at + 2) };
        hi = record { x = float_of f (9 * at + 3); y = float_of f (9 * at + 4); z = float_of f (9 * at + 5) };
      };
      start = word_of w (9 * at + 6);
      count = word_of w (9 * at + 7);
      right = word_of w (9 * at + 8);
    }

abbrev pub inner_node : Aabb → ℕ → Node  -- an interior node has count 0 and start 0
inner_node b right = record { hull = b; start = 0; count = 0; right = right }

abbrev pub leaf_node : Aabb → ℕ → ℕ → Node  -- a leaf has right 0
leaf_node b start count = record { hull = b; start = start; count = count; right = 0 }
