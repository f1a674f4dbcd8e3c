-- "A tree is accepted exactly when it meets document 01's rules; a built tree is turned down for depth only; on an
-- accepted tree the search never needs a 65th place, its two counts are document 01's, its answer is the least by value
-- of the starting bound and those distances worked out that are numbers, and every piece passed over lies under a box
-- worked out to be no nearer than that answer": of the exported calls, on bytes. Definitions only; the theorem is
-- `demand_three` of proofs/Demand3.antt.
use Rattle.std.specs.Prelude.{ℕ, ◌<◌, ◌≤◌, ◌≡◌, ◌↔◌, ◌⊎◌, true, List, [], ◌∷◌, map, length}
use Rattle.vectors.specs.declared.Vec3.{Vec3}
use Rattle.words.specs.Lists.{All}
use Rattle.words.specs.Words.{sent_words}
use Rattle.refusals.specs.Refusals.{bad_tree, too_deep, no_tree}
use Rattle.plan.specs.Sections.{objects}
use Rattle.plan.specs.Records.{word_of}
use Rattle.plan.specs.declared.DistHit.{DistHit}
use Rattle.plan.specs.Plan.{count_of, seen, plan_in}
use Rattle.plan.specs.Nearest.{nearest, nothing}
use Rattle.plan_test.specs.Exact.{SoundObjects}
use Rattle.bvh_boxes.specs.Boxes.{boxes_of}
use Rattle.bvh_rules.specs.Nodes.{nodes_of, order_of}
use Rattle.bvh_rules.specs.Rules.{Tree, size, depth, Accepted}
use Rattle.bvh_build.specs.Tables.{built_of}
use Rattle.bvh_search.specs.declared.Searched.{Searched}
use Rattle.bvh_search.specs.Search.{searched}
use Rattle.bvh_search.specs.Field.{field_by}
use Rattle.bvh_search.specs.Demand.{In, Over, Demand}
use Rattle.reply.specs.Reply.{one_word}
use Rattle.ask_test.specs.Numbers.{arg_vec}
use Rattle.bemitondry_ask.specs.Asks.{query_bound, searched_reply, query_reply, dist_mat_reply}
use Rattle.bemitondry_ask.specs.Marches.{trace_reply, shadow_reply}
use Rattle.bemitondry_light.specs.Light.{direct_reply, direct_diffuse_reply}
use Rattle.wire_lengths.specs.Lengths.{out_bytes}
use Rattle.wire.specs.Lent.{ask_table}
use Rattle.wire.specs.Sent.{Sent}
use Rattle.viewer.specs.Calls.{Ask, ask_reply}
use Rattle.wire_tree.specs.Trees.{BuildSent, OfferSent}
use Rattle.promises.specs.Bytes.{plan_at, object_count, HoldsTree, AcceptedTree, TreeRules, FullPlan, FullTree}

-- ---- build and offer, which send n and leave nodes', order' and out'
pub record OfferKeeps (plan given ranks out : List ℕ) (n : ℕ) (nodes' order' out' : List ℕ) : Type 0 where
  pub one : (n ≡ 0) ⊎ ((n ≡ bad_tree) ⊎ (n ≡ too_deep))
  pub taken : (n ≡ 0) ↔ TreeRules plan given ranks
  pub deep : (n ≡ too_deep) ↔ ((t : Tree) × (HoldsTree plan given ranks t × (63 < depth t)))
  pub bad : (n ≡ bad_tree) ↔ ((0 < object_count plan) × ((t : Tree) → HoldsTree plan given ranks t → ⊥))
  -- what stands after it meets the rules, and is the tree that was offered; its number of nodes is sent
  pub stands : n ≡ 0 → TreeRules plan nodes' order'
  pub same : (t : Tree) → AcceptedTree plan given ranks t → AcceptedTree plan nodes' order' t
  pub size_sent : (t : Tree) → AcceptedTree plan given ranks t → out' ≡ sent_words out (one_word (size t)).words
  pub none_sent : object_count plan ≡ 0 → out' ≡ sent_words out (one_word 0).words

pub record BuildKeeps (plan out : List ℕ) (n : ℕ) (nodes' order' out' : List ℕ) : Type 0 where
  pub one : (n ≡ 0) ⊎ (n ≡ too_deep)
  pub deep : (n ≡ too_deep) ↔ ((0 < object_count plan) × (63 < depth (built_of (plan_at plan)).tree))
  pub stands : n ≡ 0 → TreeRules plan nodes' order'
  pub same : n ≡ 0 → 0 < object_count plan → AcceptedTree plan nodes' order' (built_of (plan_at plan)).tree
  pub size_sent : n ≡ 0 → 0 < object_count plan
      → out' ≡ sent_words out (one_word (size (built_of (plan_at plan)).tree)).words
  pub none_sent : object_count plan ≡ 0 → out' ≡ sent_words out (one_word 0).words

-- ---- a search from a bound, on a call's table w
abbrev pub Distinct : List ℕ → Type 0
Distinct [] = Unit {0}
Distinct (x ∷ xs) = (In x xs → ⊥) × Distinct xs

pub record Searches (w : List ℕ) (p : Vec3) (bound : DistHit) (a : Searched) : Type 0 where
  pub tree : Tree
  pub accepted : Accepted (nodes_of w) (nodes_of (seen w)) (order_of w) (boxes_of (plan_in w)) tree
  pub demand : Demand (order_of w) w (seen w) p tree bound a
  -- every object k stands at a place i of the order that was evaluated, or that lies under a box passed over
  pub each : (k : ℕ) → k < count_of objects w
      → (i : ℕ) × (i < count_of objects w) × (word_of (order_of w) i ≡ k)
      × (In i demand.walk.seen ⊎ Over (order_of w) w (seen w) p a.hit.d demand.walk.passed i)
  pub once : Distinct (map (word_of (order_of w)) demand.walk.seen)  -- and none is evaluated twice

abbrev pub Answers : List ℕ → Vec3 → DistHit → Searched → Type 0  -- with no objects the bound comes back
Answers w p bound a = ((count_of objects w ≡ 0) × (a ≡ searched bound 0 0 true)) ⊎ Searches w p bound a

abbrev pub FieldAnswers : List ℕ → Type 0  -- the hit at every point is that of such a search, from the nearest plane
FieldAnswers w =
    (p : Vec3) → (a : Searched)
    × (field_by 1 w (seen w) p ≡ a.hit) × Answers w p (nearest (plan_in w).planes p nothing) a

-- ---- the calls by the tree: those that work out the field, and the query of objects alone
abbrev pub field_calls : List Ask
field_calls = dist_mat_reply ∷ trace_reply ∷ shadow_reply ∷ direct_reply ∷ direct_diffuse_reply ∷ []

abbrev pub tree_calls : List Ask
tree_calls = query_reply ∷ field_calls

-- ---- the demand, for every number `need` of bytes of arguments that a call reads
pub record DemandThree : Type 0 where
  pub offer : (plan nodes order given ranks out : List ℕ) (n : ℕ) (nodes' order' out' : List ℕ)
      → FullPlan plan → FullTree nodes order → FullTree given ranks → out_bytes ≤ length out
      → SoundObjects (plan_at plan) → OfferSent plan nodes order given ranks out n nodes' order' out'
      → OfferKeeps plan given ranks out n nodes' order' out'
  pub build : (plan nodes order out : List ℕ) (n : ℕ) (nodes' order' out' : List ℕ)
      → FullPlan plan → FullTree nodes order → out_bytes ≤ length out
      → SoundObjects (plan_at plan) → BuildSent plan nodes order out n nodes' order' out'
      → BuildKeeps plan out n nodes' order' out'
  -- while the objects are those for which a tree meets the rules, no call by the tree sends 8
  pub standing : (made plan nodes order args : List ℕ) (need out : ℕ)
      → FullTree nodes order → SoundObjects (plan_at made) → TreeRules made nodes order
      → (plan_at plan).objects ≡ (plan_at made).objects
      → All (λ (ask : Ask). (ask_reply ask need plan nodes order 1 args out).number ≡ no_tree → ⊥) tree_calls
  pub query : (plan nodes order args out out' : List ℕ) (need : ℕ)
      → Sent (ask_reply query_reply need plan nodes order 1 args (length out)) out 0 out'
      → let w = ask_table need plan nodes order 1 args in
      (a : Searched) × (out' ≡ sent_words out (searched_reply a).words)
      × Answers w (arg_vec (seen w) 0) (query_bound w (seen w)) a
  pub fields : (plan nodes order args : List ℕ) (need out : ℕ)
      → All (λ (ask : Ask). (ask_reply ask need plan nodes order 1 args out).number ≡ 0
      → FieldAnswers (ask_table need plan nodes order 1 args)) field_calls
