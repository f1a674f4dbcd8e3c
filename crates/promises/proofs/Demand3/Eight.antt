-- No call by a tree that meets the rules sends 8: no test but the tree's has that number, by cases. Assumes nothing.
use Prim.Native.Nat.{ℕ, ◌≤◌}
use mathlib.Core.Path.{◌≡◌, refl, sym, ◌∙◌}
use mathlib.Core.Logic.{⊎_elim}
use mathlib.Core.Bool.{Bool, true, false, cond, ◌&&◌}
use mathlib.Core.List.{List, [], ◌∷◌}
use native.Mathlib.Omega.{arith}
use lib.Dec.{eqb, leb}
use lib.ListN.{length}
use lib.Ieee.{Float, eq}
use Rattle.scalar.specs.F32.{f0}
use Rattle.vectors.specs.declared.Vec3.{Vec3}
use Rattle.vectors.specs.Vec.{vsub, vlength}
use Rattle.sdf.specs.declared.Shape.{Shape}
use Rattle.words.specs.Lists.{All}
use Rattle.words.proofs.Runs.{all_map}
use Rattle.refusals.specs.Refusals.{no_tree, no_room, unless, lower, lowest_of}
use Rattle.refusals.specs.Prims.{prim_number}
use Rattle.plan.specs.declared.Material.{Material}
use Rattle.plan.specs.declared.QuadLight.{QuadLight}
use Rattle.plan.specs.Sections.{nodes_words, cutter_places}
use Rattle.plan.specs.Plan.{Piece, Plan, plan_of, seen}
use Rattle.record_test.specs.Numbers.{material_number, light_number, cutter_number, cuts_number, own_number, piece_own}
use Rattle.record_test.specs.Numbers.{piece_cuts}
use Rattle.plan_test.specs.declared.Solids.{Solids}
use Rattle.plan_test.specs.Tests.{counts_ok, tally_of, objects_tally, objects_number, solids_placed, solids_of, lit_number}
use Rattle.plan_test.specs.Exact.{SoundObjects}
use Rattle.bvh_boxes.specs.Boxes.{boxes_of}
use Rattle.bvh_boxes.proofs.Lists.{boxes_length}
use Rattle.bvh_rules.specs.Check.{standing_number}
use Rattle.bvh_rules.proofs.Exact.{standing_exact}
use Rattle.panel.specs.Panels.{panel_of, at_light_number, panels_number}
use Rattle.reply.specs.declared.Reply.{Reply}
use Rattle.reply.specs.Reply.{done_reply, refused_reply, reply_of}
use Rattle.wire_lengths.specs.Lengths.{short_number}
use Rattle.wire.specs.Lent.{ask_table}
use Rattle.wire_lengths.specs.Lengths.{args_before, plan_before, tables_before, tree_before, ask_before}
use Rattle.ask_test.specs.Numbers.{tree_number, query_number, solids_ask}
use Rattle.bemitondry_ask.specs.Asks.{found_reply, query_reply, dist_mat_reply}
use Rattle.bemitondry_ask.specs.Marches.{trace_reply, shadow_reply}
use Rattle.bemitondry_light.specs.Light.{lit_ask, lit_reply, direct_reply, direct_diffuse_reply}
use Rattle.viewer.specs.Calls.{Ask, ask_reply}
use Rattle.promises.specs.Bytes.{plan_at, words_of_nodes, node_floats, order_words, TreeRules, FullTree}
use Rattle.promises.specs.Demand3.{tree_calls}
use Rattle.promises.proofs.Lowest.{lower_least}
use Rattle.promises.proofs.Cases.{either, ◌&◌}
use Rattle.promises.proofs.Replies.{traced_number}
use Rattle.wire.proofs.Loads.{length_words}
use Rattle.promises.proofs.Demand3.Asked.{ask_reads}

-- another number than 8
abbrev Other : ℕ → Type 0
Other n = n ≡ no_tree → ⊥

-- ---- what numbers are made of
-- a value's number, whichever of two it is
other_of : {A : Type 0} (n : A → ℕ) (b : Bool) (x y : A) → Other (n x) → Other (n y) → Other (n (cond b x y))
other_of n b x y p q = either (λ z. Other (n z)) b x y p q

other_cond : (b : Bool) (x y : ℕ) → Other x → Other y → Other (cond b x y)
other_cond b x y = other_of (λ n. n) b x y

other_lower : (a b : ℕ) → Other a → Other b → Other (lower a b)
other_lower a b p q e = ⊎_elim (λ g. p (sym g ∙ e)) (λ g. q (sym g ∙ e)) (lower_least a b).one

other_unless : (n : ℕ) (b : Bool) → n ≤ 5 → Other (unless n b)
unfolding unless
other_unless n b h = other_cond b 0 n (λ e. omega arith) (λ e. omega arith)

other_lowest
    : {A : Type 0} (number : A → ℕ)
    → ((x : A) → Other (number x)) → (xs : List A) → Other (lowest_of number xs)
unfolding lowest_of
other_lowest number p [] = λ e. omega arith
other_lowest number p (x ∷ xs) = other_lower (number x) (lowest_of number xs) (p x) (other_lowest number p xs)

other_room : Other no_room
other_room e = omega arith

-- ---- a plan's records
other_prim : (k : ℕ) (s : Shape) → Other (prim_number k s)
unfolding prim_number
other_prim k s = other_lower _ _ (other_unless 1 _ (omega arith)) (other_unless 4 _ (omega arith))

other_material : (m : Material) → Other (material_number m)
unfolding material_number
other_material m = other_unless 1 _ (omega arith)

other_light : (l : QuadLight) → Other (light_number l)
unfolding light_number
other_light l = other_lower _ _ (other_unless 1 _ (omega arith)) (other_unless 4 _ (omega arith))

other_cuts : (o : Piece) → Other (piece_cuts o)
unfolding piece_cuts cuts_number cutter_number
other_cuts o = other_lowest cutter_number (λ c. other_prim c.kind c.shape) o.cuts

other_own : (planes : Bool) (m : ℕ) (o : Piece) → Other (piece_own planes m o)
unfolding piece_own own_number
other_own planes m o =
    other_lower _ _
    (other_lower _ _ (other_prim o.head.kind o.head.shape) (other_unless 1 _ (omega arith)))
    (other_lower _ _ (other_unless 3 _ (omega arith)) (other_unless 5 _ (omega arith)))

-- ---- a plan
module _ (p : Plan) where
  own : (planes : Bool) (os : List Piece) → Other (tally_of planes (length p.materials) os).number
  unfolding tally_of
  own planes os = other_lowest (piece_own planes (length p.materials)) (other_own planes (length p.materials)) os

  cuts : (os : List Piece) → Other (lowest_of piece_cuts os)
  cuts os = other_lowest piece_cuts other_cuts os

  other_objects : Other (objects_number p)
  unfolding objects_number
  other_objects =
      let placed = (objects_tally p).placed && leb (objects_tally p).used cutter_places in
      other_cond (counts_ok p) _ _
      (other_lower _ _ (own false p.objects) (other_cond placed _ _ (cuts p.objects) other_room))
      other_room

  other_solids : Other (solids_of p).number
  unfolding solids_of
  other_solids =
      go (counts_ok p) _ _
      (other_lower _ _ (other_lower _ _ (own true p.planes) (own false p.objects))
      (other_cond (solids_placed p) _ _ (other_lower _ _ (cuts p.planes) (cuts p.objects)) other_room))
      other_room
    where
      go : (b : Bool) (x y : Solids) → Other x.number → Other y.number → Other (cond b x y).number
      go = other_of (λ (s : Solids). s.number)

  other_lit : Other (lit_number p)
  unfolding lit_number
  other_lit =
      other_cond (counts_ok p) _ _ (other_lower _ _ other_solids (other_lowest light_number other_light p.lights))
      other_room

other_panels : (q : Vec3) (ls : List QuadLight) → Other (panels_number q ls)
unfolding panels_number at_light_number
other_panels q ls =
    other_lowest (at_light_number q)
    (λ l. other_cond (eq (vlength (vsub (panel_of l).center q)) f0) 9 0 (λ e. omega arith) (λ e. omega arith))
    ls

-- ---- the tables' lengths
other_short : (bytes full : ℕ) → Other (short_number bytes full)
unfolding short_number
other_short bytes full = other_unless 2 _ (omega arith)

other_before : (need plan nodes order args out : ℕ) → Other (ask_before need plan nodes order 1 args out)
unfolding ask_before plan_before args_before tree_before tables_before
other_before need plan nodes order args out =
    other_lower _ _
    (other_lower _ _ (other_short plan _) (other_lower _ _ (other_short args need) (other_short out _)))
    (other_lower _ _ (other_short nodes _) (other_short order _))

-- ---- a call's number, where the tree's is 0
other_reply : (n : ℕ) (r : Reply) → Other n → r.number ≡ 0 → Other (reply_of n r).number
unfolding reply_of refused_reply
other_reply n r p z = other_of (λ (x : Reply). x.number) (eqb n 0) r _ (λ e. omega arith) p

module _ (before : ℕ) (w : List ℕ) (f : List Float) (b : Other before) (z : tree_number 1 w f ≡ 0) where
  other_tree : (n : ℕ) → Other n → Other (lower n (tree_number 1 w f))
  other_tree n p = other_lower n (tree_number 1 w f) p (λ e. omega arith)

  other_query : Other (query_reply before 1 w f).number
  unfolding query_reply query_number found_reply done_reply
  other_query =
      other_reply _ _
      (other_tree _ (other_lower _ _ b (other_lower _ _ (other_unless 1 _ (omega arith)) (other_objects (plan_of w f)))))
      refl

  other_ask : (given : Bool) → Other (lower (solids_ask before given w f) (tree_number 1 w f))
  unfolding solids_ask
  other_ask given =
      other_tree _ (other_lower _ _ b (other_lower _ _ (other_unless 1 _ (omega arith)) (other_solids (plan_of w f))))

  other_lit_ask : (given : ℕ) (q : Vec3) → Other given → Other (lit_ask before given 1 q w f)
  unfolding lit_ask
  other_lit_ask given q g =
      other_lower _ _ (other_tree _ (other_lower _ _ b (other_lower _ _ g (other_lit (plan_of w f))))) (other_panels q _)

  other_dist : Other (dist_mat_reply before 1 w f).number
  unfolding dist_mat_reply found_reply done_reply
  other_dist = other_reply _ _ (other_ask _) refl

  other_trace : Other (trace_reply before 1 w f).number
  unfolding trace_reply
  other_trace = other_reply _ _ (other_ask _) (traced_number _)

  other_shadow : Other (shadow_reply before 1 w f).number
  unfolding shadow_reply done_reply
  other_shadow = other_reply _ _ (other_ask _) refl

  other_direct : Other (direct_reply before 1 w f).number
  unfolding direct_reply lit_reply done_reply
  other_direct =
      other_reply _ _
      (other_lit_ask _ _ (other_lower _ _ (other_unless 1 _ (omega arith)) (other_material _))) refl

  other_diffuse : Other (direct_diffuse_reply before 1 w f).number
  unfolding direct_diffuse_reply lit_reply done_reply
  other_diffuse = other_reply _ _ (other_lit_ask _ _ (other_unless 1 _ (omega arith))) refl

-- a call whose number is not 8 where the tree's is 0: each is one
abbrev Others : Ask → Type 0
Others ask =
    (before : ℕ) (w : List ℕ) (f : List Float)
    → Other before → tree_number 1 w f ≡ 0 → Other (ask before 1 w f).number

others : All Others tree_calls
others = other_query & other_dist & other_trace & other_shadow & other_direct & other_diffuse & tt

-- ---- the tree's is 0 for the objects for which it meets the rules
tree_zero
    : (made plan nodes order : List ℕ) (need : ℕ) (args : List ℕ)
    → FullTree nodes order
    → SoundObjects (plan_at made)
    → TreeRules made nodes order
    → (plan_at plan).objects ≡ (plan_at made).objects
    → tree_number 1 (ask_table need plan nodes order 1 args) (seen (ask_table need plan nodes order 1 args)) ≡ 0
unfolding tree_number
tree_zero made plan nodes order need args full sound rules e =
    let few : length (boxes_of (plan_at made)) ≤ 256
    = omega (arith, boxes_length (plan_at made), sound.counts.objects) in
    ask_reads need plan nodes order args full standing_number made sound e
    ∙ (standing_exact (words_of_nodes nodes) (node_floats nodes) (order_words order) (boxes_of (plan_at made))
    (length_words nodes nodes_words) few).1 rules

-- no call sends 8
pub no_call_eight
    : (made plan nodes order args : List ℕ) (need out : ℕ)
    → FullTree nodes order
    → SoundObjects (plan_at made)
    → TreeRules made nodes order
    → (plan_at plan).objects ≡ (plan_at made).objects
    → All (λ (ask : Ask). Other (ask_reply ask need plan nodes order 1 args out).number) tree_calls
no_call_eight made plan nodes order args need out full sound rules e =
    let w = ask_table need plan nodes order 1 args in
    all_map Others (λ (ask : Ask). Other (ask_reply ask need plan nodes order 1 args out).number)
    (λ ask other.
    other (ask_before need (length plan) (length nodes) (length order) 1 (length args) out) w (seen w)
    (other_before need (length plan) (length nodes) (length order) (length args) out)
    (tree_zero made plan nodes order need args full sound rules e))
    tree_calls others
