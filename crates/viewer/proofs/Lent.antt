-- A call on loaded tables is the call on what the lent bytes stand for. One law for every call of a kind. Assumes
-- nothing.
use Prim.Native.Nat.{ℕ, ◌<◌}
use mathlib.Core.Path.{◌≡◌, ◌∙◌, ap}
use mathlib.Core.Logic.{⊎_elim}
use mathlib.Core.List.{List}
use native.Mathlib.Omega.{arith}
use lib.ListN.{length, replicate, length-replicate, get_or-replicate, get_or-eq_default}
use lib.Ieee.{Float, nan}
use Rattle.scalar.specs.F32.{f0}
use Rattle.words.proofs.Laws.{less_or}
use Rattle.plan.specs.Records.{word_of, float_of}
use Rattle.plan.specs.Plan.{seen}
use Rattle.reply.specs.declared.Reply.{Reply}
use Rattle.wire.specs.Lent.{ask_table}
use Rattle.wire_lengths.specs.Lengths.{ask_before}
use Rattle.wire.specs.Sent.{Sent}
use Rattle.wire.proofs.Replies.{sent_as}
use Rattle.wire_used.specs.Inside.Used.{Spared}
use Rattle.viewer.specs.Calls.{Ask, ask_reply}
use Rattle.viewer.specs.Inside.Same.{Reads}
use Rattle.viewer.proofs.Spared.{spared_same, spared_args}

-- ---- a new table
pub zero_words : (n i : ℕ) → word_of (replicate n 0) i ≡ 0
zero_words n i =
    let l : length (replicate {A = ℕ} n 0) ≡ n = length-replicate {A = ℕ} n 0 in
    ⊎_elim (λ h. get_or-replicate n i 0 0 h)
    (λ h. get_or-eq_default (replicate n 0) 0 {n = i} (omega (arith, h, l))) (less_or i n)

pub zero_floats : (n i : ℕ) → i < n → float_of (replicate n f0) i ≡ f0
zero_floats n i h = get_or-replicate n i f0 nan h

pub ask_sent : (call : Ask) → Reads call → (need : ℕ) (plan nodes order : List ℕ) (tree : ℕ) (args out w : List ℕ)
    (f : List Float) (before : ℕ) (r : Reply) (n : ℕ) (out' : List ℕ)
    → Spared (ask_table need plan nodes order tree args) w × (f ≡ seen w)
    → before ≡ ask_before need (length plan) (length nodes) (length order) tree (length args) (length out)
    → r ≡ call before tree w f
    → Sent r out n out'
    → Sent (ask_reply call need plan nodes order tree args (length out)) out n out'
ask_sent call reads need plan nodes order tree args out w f before r n out' t b e s =
    let all : List ℕ = ask_table need plan nodes order tree args in
    let same : r ≡ ask_reply call need plan nodes order tree args (length out)
    = e ∙ ap (call before tree w) t.1
    ∙ reads before tree w all (seen w) (seen all) (spared_same all w t.0) (spared_args all w t.0)
    ∙ ap (λ (k : ℕ). call k tree all (seen all)) b in
    sent_as same s
