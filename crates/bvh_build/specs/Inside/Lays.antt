-- What one call of the builder leaves, given room, and what the whole build leaves.
use Rattle.std.specs.Prelude.{◌≡◌, ℕ, ◌+◌, ◌*◌, ◌<◌, ◌≤◌, false, List, length}
use Rattle.scalar.specs.F32.{f0}
use Rattle.vectors.specs.Vec.{vsplat}
use Rattle.sdf.specs.declared.Aabb.{Aabb}
use Rattle.plan.specs.Plan.{Plan}
use Rattle.bvh_rules.specs.Rules.{size}
use Rattle.bvh_build.specs.declared.Built.{Built}
use Rattle.bvh_build.specs.Build.{TreeOrder}
use Rattle.bvh_build.specs.Encode.{encode, laid, low_of}
use Rattle.bvh_build.specs.Tables.{size_of, low_enough, nodes_with, order_with}

-- the tree m laid at place `at` of the nodes, its first leaf starting at s, with so many levels left
pub record Lays (m : TreeOrder) (nodes : List ℕ) (at s levels : ℕ) (r : Built) (nodes' order' : List ℕ) : Type 0 where
  pub next_is : r.next ≡ at + size m.tree
  pub low_is : r.low ≡ low_of m.tree levels
  pub nodes_are : nodes' ≡ laid nodes (9 * at) (encode m.tree at s)
  pub order_is : order' ≡ m.order

pub record Room (os : List ℕ) (at s : ℕ) : Type 0 where  -- there is room for every node and place of the range
  pub some : 0 < length os
  pub nodes : at + 2 * length os ≤ 512
  pub places : s + length os ≤ 256

-- the whole build of a plan's objects
pub record Builds (p : Plan) (nodes order : List ℕ) (r : Built) (nodes' order' : List ℕ) : Type 0 where
  pub next_is : r.next ≡ size_of p
  pub low_is : r.low ≡ low_enough p
  pub nodes_are : nodes' ≡ nodes_with p nodes
  pub order_is : order' ≡ order_with p order

-- of more than 256 objects nothing is built
pub record Unbuilt (nodes order : List ℕ) (r : Built) (nodes' order' : List ℕ) : Type 0 where
  pub next_is : r.next ≡ 0
  pub low_is : r.low ≡ false
  pub nodes_are : nodes' ≡ nodes
  pub order_is : order' ≡ order

pub record BuildsFew (p : Plan) (nodes order : List ℕ) (r : Built) (nodes' order' : List ℕ) : Type 0 where
  pub few : length p.objects ≤ 256 → Builds p nodes order r nodes' order'
  pub many : 256 < length p.objects → Unbuilt nodes order r nodes' order'

abbrev pub zero_box : Aabb  -- what a table of floats that are 0 holds
zero_box = record { lo = vsplat f0; hi = vsplat f0 }
