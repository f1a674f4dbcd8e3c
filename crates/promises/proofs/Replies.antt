-- A reply to a number sends that number, and the answer where it is 0: by cases on the number. Assumes nothing.
use Prim.Native.Nat.{ℕ, zero, suc, ◌<◌}
use mathlib.Core.Path.{◌≡◌, refl, sym, ◌∙◌, ap}
use mathlib.Core.List.{List}
use native.Mathlib.Omega.{arith}
use lib.Dec.{eqb-suc-zero}
use Rattle.words.specs.Words.{sent_words}
use Rattle.std.specs.Prelude.{Option, Some, None}
use Rattle.trace.specs.declared.Hit.{Hit}
use Rattle.trace.specs.declared.Traced.{Traced}
use Rattle.reply.specs.declared.Reply.{Reply}
use Rattle.reply.specs.Reply.{one_word, done_reply, refused_reply, reply_of}
use Rattle.wire.specs.Sent.{Sent}
use Rattle.bemitondry_ask.specs.Marches.{hit_reply, traced_reply}
use Rattle.promises.proofs.Cases.{cond_some}

-- an answer is no refusal by itself
pub reply_number : (n : ℕ) (r : Reply) → r.number ≡ 0 → (reply_of n r).number ≡ n
unfolding reply_of refused_reply
reply_number zero r e = e
reply_number (suc n) r e = rw (eqb-suc-zero n)

pub traced_number : (t : Traced) → (traced_reply t).number ≡ 0
unfolding traced_reply done_reply
traced_number t = go t.hit
  where
    go : (h : Option Hit) → (hit_reply h t.count).number ≡ 0
    go (Some h) = refl
    go None = refl

-- a reply whose number is 0 was not refused, and is the answer
pub not_refused : (n : ℕ) (r : Reply) → (reply_of n r).number ≡ 0 → (n ≡ 0) × (reply_of n r ≡ r)
unfolding reply_of refused_reply
not_refused zero r e = (refl, refl)
not_refused (suc n) r e = let z : suc n ≡ 0 = rw (eqb-suc-zero n) at e in absurd (omega arith)

-- ---- an answer of one word
module _ (number i : ℕ) {out : List ℕ} {n : ℕ} {out' : List ℕ}
    (sent : Sent (reply_of number (one_word i)) out n out')
  where
    pub sent_number : n ≡ number
    unfolding done_reply
    sent_number = sent.number_is ∙ reply_number number (one_word i) refl

    pub sent_word : {k : ℕ} → number ≡ 0 → i ≡ k → out' ≡ sent_words out (one_word k).words
    unfolding reply_of
    sent_word z e = sent.out_is ∙ rw (z, e)

    pub sent_refusal : 0 < n → out' ≡ sent_words out (refused_reply n).words
    unfolding reply_of
    sent_refusal h =
        let r : reply_of number (one_word i) ≡ refused_reply n = rw (sym sent_number) (cond_some n _ _ h) in
        sent.out_is ∙ ap (λ (a : Reply). sent_words out a.words) r
