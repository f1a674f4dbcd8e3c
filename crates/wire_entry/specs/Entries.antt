-- What each entry leaves of the bytes that are lent: "a piece and its cutters enter together or nothing changes".
use Rattle.std.specs.Prelude.{ℕ, ◌≡◌, Bool, true, false, cond, List, length, take, eqb}
use Rattle.words.specs.Words.{with_words}
use Rattle.plan.specs.Sections.{plan_words, materials, lights, planes, objects}
use Rattle.plan.specs.Plan.{count_of, seen}
use Rattle.plan_write.specs.Written.{with_material_words, with_light_words}
use Rattle.reply.specs.Reply.{one_word, reply_of}
use Rattle.wire_lengths.specs.Lengths.{nodes_bytes, order_bytes}
use Rattle.wire.specs.Lent.{plan_table}
use Rattle.wire_lengths.specs.Lengths.{plan_before, tree_tables_before}
use Rattle.wire.specs.Sent.{cleared, Sent}
use Rattle.bemitondry_entry.specs.Entries.{material_entry, light_entry, piece_entry, piece_left}

-- the number of what entered is sent, and the plan's words of the table `left` are stored, where the number is 0
pub record EntrySent (number index : ℕ) (left plan out : List ℕ) (n : ℕ) (plan' out' : List ℕ) : Type 0 where
  pub sent : Sent (reply_of number (one_word index)) out n out'
  pub plan_is : plan' ≡ cond (eqb number 0) (with_words plan (take plan_words left)) plan

abbrev pub MaterialSent : List ℕ → List ℕ → List ℕ → ℕ → List ℕ → List ℕ → Type 0
MaterialSent plan args out n plan' out' =
    let w = plan_table 20 plan args in
    EntrySent (material_entry (plan_before (length plan) 20 (length args) (length out)) w (seen w)) (count_of materials w)
    (with_material_words w) plan out n plan' out'

abbrev pub LightSent : List ℕ → List ℕ → List ℕ → ℕ → List ℕ → List ℕ → Type 0
LightSent plan args out n plan' out' =
    let w = plan_table 60 plan args in
    EntrySent (light_entry (plan_before (length plan) 60 (length args) (length out)) w (seen w)) (count_of lights w)
    (with_light_words w) plan out n plan' out'

abbrev pub PieceOn : List ℕ → ℕ → Bool → ℕ → List ℕ → ℕ → List ℕ → ℕ → List ℕ → List ℕ → Type 0
PieceOn w before among index plan bytes out n plan' out' =
    EntrySent (piece_entry before among w (seen w) bytes) index (piece_left among w (seen w)) plan out n plan' out'

abbrev pub PlaneSent : List ℕ → List ℕ → List ℕ → ℕ → List ℕ → List ℕ → Type 0
PlaneSent plan args out n plan' out' =
    let w = plan_table 64 plan args in
    PieceOn w (plan_before (length plan) 64 (length args) (length out)) true (count_of planes w) plan (length args)
    out n plan' out'

abbrev pub object_before : List ℕ → List ℕ → List ℕ → List ℕ → List ℕ → ℕ
object_before plan nodes order args out =
    tree_tables_before (length plan) (length nodes) (length order) 64 (length args) (length out)

abbrev pub object_entry : List ℕ → List ℕ → List ℕ → List ℕ → List ℕ → List ℕ → ℕ
object_entry w plan nodes order args out =
    piece_entry (object_before plan nodes order args out) false w (seen w) (length args)

-- "An accepted change of objects drops the tree: both tables become zero"
pub record ObjectOn (w plan nodes order args out : List ℕ) (n : ℕ) (plan' nodes' order' out' : List ℕ) : Type 0 where
  pub piece
      : PieceOn w (object_before plan nodes order args out) false (count_of objects w) plan (length args) out n plan' out'
  pub nodes_is : nodes' ≡ cleared (eqb (object_entry w plan nodes order args out) 0) nodes nodes_bytes
  pub order_is : order' ≡ cleared (eqb (object_entry w plan nodes order args out) 0) order order_bytes

abbrev pub ObjectSent : List ℕ → List ℕ → List ℕ → List ℕ → List ℕ → ℕ → List ℕ → List ℕ → List ℕ → List ℕ → Type 0
ObjectSent plan nodes order args out n plan' nodes' order' out' =
    ObjectOn (plan_table 64 plan args) plan nodes order args out n plan' nodes' order' out'
