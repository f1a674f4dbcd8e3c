-- The search as the code holds it: the node in hand with the square of its box distance, and the others with theirs in
-- a table of 64 places, the last on top. That it comes to `run_of` is shown in proofs/Machine.antt.
use Rattle.std.specs.Prelude.{ℕ, ◌+◌, ◌-◌, ◌%◌, ◌^◌, cond, List, ◌==◌, nat_lt, slice_index_or, slice_set, Float}
use Rattle.std.specs.Float.{nan}
use Rattle.root_tests.specs.Inside.Tests.{far_off, left_first, limit_of}
use Rattle.scalar.specs.F32.{f0}
use Rattle.vectors.specs.declared.Vec3.{Vec3}
use Rattle.vectors.specs.Vec.{vsplat, vsub, vmax, vdot}
use Rattle.sdf.specs.declared.Aabb.{Aabb}
use Rattle.bvh_rules.specs.declared.Node.{Node}
use Rattle.bvh_rules.specs.Nodes.{nodes_most, node_at}
use Rattle.bvh_search.specs.declared.Scan.{Scan}
use Rattle.bvh_search.specs.declared.State.{State}
use Rattle.bvh_search.specs.declared.Standing.{Standing}
use Rattle.bvh_search.specs.declared.Standing.TheVariants.{Ended, Full}
use Rattle.bvh_search.specs.declared.Pair.{Pair}
use Rattle.bvh_search.specs.declared.Waiting.{Waiting}
use Rattle.bvh_search.specs.Search.{leaf_scan, places_of}

abbrev pub box_gap : Vec3 → Aabb → Vec3  -- how far a box is off, on each axis
box_gap p b = vmax (vmax (vsub b.lo p) (vsub p b.hi)) (vsplat f0)

unfoldable pub box_square : Vec3 → Aabb → Float  -- the square of a box distance
box_square p b = vdot (box_gap p b) (box_gap p b)

abbrev pub nobody : Waiting  -- what stands past the stack's end
nobody = record { at = 0; key = nan }

abbrev pub holding : State → Waiting → ℕ → State  -- the state with another node in hand
holding s x sp =
    record {
      at = x.at;
      key = x.key;
      sp = sp;
      hit = s.hit;
      lim = s.lim;
      popped = s.popped;
      evaluated = s.evaluated;
      standing = s.standing;
    }

abbrev pub ended : State → Standing → State
ended s how =
    record {
      at = s.at;
      key = s.key;
      sp = s.sp;
      hit = s.hit;
      lim = s.lim;
      popped = s.popped;
      evaluated = s.evaluated;
      standing = how;
    }

abbrev pub popping : State → State
popping s =
    record {
      at = s.at;
      key = s.key;
      sp = s.sp;
      hit = s.hit;
      lim = s.lim;
      popped = (s.popped + 1) % 2 ^ 32;
      evaluated = s.evaluated;
      standing = s.standing;
    }

abbrev pub scanned : State → Scan → State
scanned s x =
    record {
      at = s.at;
      key = s.key;
      sp = s.sp;
      hit = x.hit;
      lim = limit_of x.hit.d;
      popped = s.popped;
      evaluated = (s.evaluated + x.evaluated) % 2 ^ 32;
      standing = s.standing;
    }

unfoldable pub next_of : List Waiting → State → State  -- the next waiting node in hand, or the end
next_of stack s = cond (s.sp == 0) (ended s Ended) (holding s (slice_index_or stack (s.sp - 1) nobody) (s.sp - 1))

pub record Tables : Type 0 where
  pub stack : List Waiting
  pub state : State

abbrev pub tables : List Waiting → State → Tables
tables stack s = record { stack = stack; state = s }

abbrev pub two_of : List Waiting → State → Waiting → Waiting → Tables  -- a waiting, b in hand
two_of stack s a b = tables (slice_set stack s.sp a) (holding s b (s.sp + 1))

unfoldable pub square_at : List ℕ → List Float → Vec3 → ℕ → Float
square_at nw nf p a = box_square p (node_at nw nf a).hull

abbrev pub squares_at : List ℕ → List Float → Vec3 → ℕ → ℕ → Pair
squares_at nw nf p a b = record { l = square_at nw nf p a; r = square_at nw nf p b }

abbrev pub keyed : List ℕ → List Float → Vec3 → ℕ → Waiting  -- the node a with its key
keyed nw nf p a = record { at = a; key = square_at nw nf p a }

-- two children: the farther one waits
unfoldable pub children_of : List ℕ → List Float → Vec3 → List Waiting → State → ℕ → ℕ → Tables
children_of nw nf p stack s l r =
    cond (nat_lt 62 s.sp) (tables stack (ended s Full))
    (cond (left_first (square_at nw nf p l) (square_at nw nf p r))
    (two_of stack s (keyed nw nf p r) (keyed nw nf p l))
    (two_of stack s (keyed nw nf p l) (keyed nw nf p r)))

unfoldable pub scanned_of : List ℕ → List ℕ → List Float → Vec3 → List Waiting → State → Node → State
scanned_of o w f p stack s v = next_of stack (scanned s (leaf_scan w f o p v.start (places_of v) s.hit))

module _ (nw : List ℕ) (nf : List Float) (o : List ℕ) (w : List ℕ) (f : List Float) (p : Vec3) where
  unfoldable pub opened_of : List Waiting → State → Node → Tables  -- the node in hand, near enough
  opened_of stack s v =
      cond (nat_lt s.at nodes_most)
      (cond (v.count == 0)
      (children_of nw nf p stack s (s.at + 1) v.right)
      (tables stack (scanned_of o w f p stack s v)))
      (tables stack (next_of stack s))

  unfoldable pub step_of : List Waiting → State → Tables  -- one pop
  step_of stack s =
      cond (far_off s.key s.hit.d)
      (tables stack (next_of stack (popping s)))
      (opened_of stack (popping s) (node_at nw nf s.at))
