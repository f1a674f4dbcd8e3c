-- What an entry on loaded tables leaves is what the promise says of the lent bytes. One law for every entry. Assumes
-- nothing.
use Prim.Native.Nat.{ℕ}
use mathlib.Core.Path.{◌≡◌, refl, sym, ◌∙◌}
use mathlib.Core.Bool.{Bool, true, false, cond}
use mathlib.Core.List.{List}
use lib.ListN.{take}
use lib.Dec.{eqb}
use lib.Ieee.{Float}
use borrow.Author.Tests.{eq-eqb, ne_eqb}
use Rattle.words.specs.Words.{with_words}
use Rattle.plan.specs.Plan.{seen}
use Rattle.reply.specs.declared.Reply.{Reply}
use Rattle.reply.specs.Reply.{one_word, reply_of}
use Rattle.wire.specs.Sent.{cleared, Sent}
use Rattle.wire.specs.Inside.Parts.{stored_plan}
use Rattle.wire.proofs.Replies.{sent_as, number_of}
use Rattle.bemitondry_entry.specs.Inside.Enters.{EntersTable}
use Rattle.wire_entry.specs.Entries.{EntrySent}

-- ---- what is done where a number is 0
pub stored_then : (n : ℕ) (w b b' : List ℕ) → n ≡ 0 → b' ≡ stored_plan true w b → b' ≡ stored_plan (eqb n 0) w b
stored_then n w b b' z h = rw (eq-eqb n 0 z) h

pub stored_else : (n : ℕ) (w b b' : List ℕ) → (n ≡ 0 → ⊥) → b' ≡ b → b' ≡ stored_plan (eqb n 0) w b
unfolding stored_plan
stored_else n w b b' z h = rw (ne_eqb n 0 z) h

pub cleared_then
    : (n k bytes : ℕ) (b b' : List ℕ) → n ≡ k → n ≡ 0 → b' ≡ cleared true b bytes → b' ≡ cleared (eqb k 0) b bytes
cleared_then n k bytes b b' e z h = rw (eq-eqb k 0 (sym e ∙ z)) h

pub cleared_else : (n k bytes : ℕ) (b : List ℕ) → n ≡ k → (n ≡ 0 → ⊥) → b ≡ cleared (eqb k 0) b bytes
unfolding cleared
cleared_else n k bytes b e z = rw (ne_eqb k 0 (λ q. z (e ∙ q)))

-- ---- an entry
stored_left
    : (n : ℕ) (left w plan : List ℕ)
    → stored_plan (eqb n 0) (cond (eqb n 0) left w) plan ≡ cond (eqb n 0) (with_words plan (take 22288 left)) plan
unfolding stored_plan
stored_left n left w plan = go (eqb n 0)
  where
    go
        : (b : Bool)
        → cond b (with_words plan (take 22288 (cond b left w))) plan ≡ cond b (with_words plan (take 22288 left)) plan
    go true = refl
    go false = refl

entered : (number index : ℕ) (w left w' plan out : List ℕ) (r : Reply) (n : ℕ) (plan' out' : List ℕ)
    → EntersTable number index w left r w' → plan' ≡ stored_plan (eqb r.number 0) w' plan → Sent r out n out'
    → EntrySent number index left plan out n plan' out'
entered number index w left w' plan out r n plan' out' e p s =
    let k = number_of r number index e.reply in
    record { sent = sent_as e.reply s; plan_is = p ∙ rw (k, e.table) (stored_left number left w plan) }

-- number, index and table left are functions of the table's words and of its floats
pub entry_sent
    : (number : List ℕ → List Float → ℕ) (index : List ℕ → ℕ) (left : List ℕ → List Float → List ℕ)
    (w t : List ℕ) (f : List Float) (w' plan out : List ℕ) (r : Reply) (n : ℕ) (plan' out' : List ℕ)
    → (w ≡ t) × (f ≡ seen w)
    → EntersTable (number w f) (index w) w (left w f) r w'
    → plan' ≡ stored_plan (eqb r.number 0) w' plan
    → Sent r out n out'
    → EntrySent (number t (seen t)) (index t) (left t (seen t)) plan out n plan' out'
entry_sent number index left w t f w' plan out r n plan' out' l e p s =
    rw (← l.0, ← l.1) (entered (number w f) (index w) w (left w f) w' plan out r n plan' out' e p s)

-- the number that is sent is the entry's
pub number_sent
    : (number index : ℕ) (left plan out : List ℕ) (n : ℕ) (plan' out' : List ℕ)
    → EntrySent number index left plan out n plan' out' → n ≡ number
number_sent number index left plan out n plan' out' s =
    s.sent.number_is ∙ number_of (reply_of number (one_word index)) number index refl
