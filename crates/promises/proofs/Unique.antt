-- Any two answers that a public call's promise allows are equal: a promise is one or more equations. Assumes nothing.
use mathlib.Core.Path.{◌≡◌, sym, ◌∙◌}
use mathlib.Core.List.{List}
use Prim.Native.Nat.{ℕ}
use lib.Ieee.{Float}
use Rattle.plan.specs.Plan.{Plan}
use Rattle.reply.specs.declared.Reply.{Reply}
use Rattle.bemitondry_entry.specs.Inside.Enters.{EntersTable}
use Rattle.bemitondry_tree.specs.Inside.Leaves.{BuildLeaves, OfferLeaves}
use Rattle.wire.specs.Sent.{Sent}
use Rattle.wire_entry.specs.Entries.{EntrySent, ObjectOn}
use Rattle.wire_tree.specs.Trees.{BuildOn, OfferOn}

-- a call that leaves only an answer: its promise is one equation, of its reply
pub only : {A : Type 0} {is r s : A} → r ≡ is → s ≡ is → r ≡ s
only p q = p ∙ sym q

-- ---- the calls that leave tables: the reply, and each table
pub enters_only
    : {number index : ℕ} {w left : List ℕ} {r s : Reply} {v u : List ℕ}
    → EntersTable number index w left r v → EntersTable number index w left s u → (r ≡ s) × (v ≡ u)
enters_only a b = (only a.reply b.reply, only a.table b.table)

pub build_only
    : {before : ℕ} {p : Plan} {r s : Reply} {n m o q : List ℕ}
    → BuildLeaves before p r n o → BuildLeaves before p s m q → (r ≡ s) × ((n ≡ m) × (o ≡ q))
build_only a b = (only a.reply b.reply, (only a.nodes b.nodes, only a.order b.order))

pub offer_only
    : {before : ℕ} {w : List ℕ} {f : List Float} {r s : Reply} {n m o q : List ℕ}
    → OfferLeaves before w f r n o → OfferLeaves before w f s m q → (r ≡ s) × ((n ≡ m) × (o ≡ q))
offer_only a b = (only a.reply b.reply, (only a.nodes b.nodes, only a.order b.order))

-- ---- what is sent: the number, and the bytes of `out`
pub sent_only
    : {r : Reply} {out : List ℕ} {n m : ℕ} {a b : List ℕ}
    → Sent r out n a → Sent r out m b → (n ≡ m) × (a ≡ b)
sent_only x y = (only x.number_is y.number_is, only x.out_is y.out_is)

-- ---- the exported calls that leave tables: the number, and every byte of `out` and of each table
pub entry_bytes_only
    : {number index : ℕ} {left plan out : List ℕ} {m n : ℕ} {p q a b : List ℕ}
    → EntrySent number index left plan out m p a → EntrySent number index left plan out n q b
    → ((m ≡ n) × (a ≡ b)) × (p ≡ q)
entry_bytes_only x y = (sent_only x.sent y.sent, only x.plan_is y.plan_is)

pub object_bytes_only
    : {w plan nodes order args out : List ℕ} {m n : ℕ} {p p' s s' t t' a b : List ℕ}
    → ObjectOn w plan nodes order args out m p s t a → ObjectOn w plan nodes order args out n p' s' t' b
    → (((m ≡ n) × (a ≡ b)) × (p ≡ p')) × (s ≡ s') × (t ≡ t')
object_bytes_only x y =
    (entry_bytes_only x.piece y.piece, only x.nodes_is y.nodes_is, only x.order_is y.order_is)

pub build_bytes_only
    : {number : ℕ} {p : Plan} {nodes order out : List ℕ} {m n : ℕ} {s s' t t' a b : List ℕ}
    → BuildOn number p nodes order out m s t a → BuildOn number p nodes order out n s' t' b
    → ((m ≡ n) × (a ≡ b)) × (s ≡ s') × (t ≡ t')
build_bytes_only x y =
    (sent_only x.sent y.sent, only x.nodes_is y.nodes_is, only x.order_is y.order_is)

pub offer_bytes_only
    : {number : ℕ} {w : List ℕ} {f : List Float} {nodes order out : List ℕ} {m n : ℕ}
    {s s' t t' a b : List ℕ}
    → OfferOn number w f nodes order out m s t a → OfferOn number w f nodes order out n s' t' b
    → ((m ≡ n) × (a ≡ b)) × (s ≡ s') × (t ≡ t')
offer_bytes_only x y =
    (sent_only x.sent y.sent, only x.nodes_is y.nodes_is, only x.order_is y.order_is)
