-- What is sent of a reply that is what it should be, and the number that it has. Assumes nothing.
use Prim.Native.Nat.{ℕ}
use mathlib.Core.Path.{◌≡◌, refl, sym, ◌∙◌, ap, subst}
use mathlib.Core.Bool.{Bool, true, false, cond}
use mathlib.Core.List.{List}
use lib.Dec.{eqb}
use borrow.Author.Tests.{eqb-true}
use Rattle.reply.specs.declared.Reply.{Reply}
use Rattle.reply.specs.Reply.{refused_reply, done_reply, one_word, reply_of}
use Rattle.wire.specs.Sent.{Sent}

-- what is sent is the reply, which is what it should be
pub sent_as
    : {r s : Reply} {out : List ℕ} {n : ℕ} {out' : List ℕ} → r ≡ s → Sent r out n out'
    → Sent s out n out'
sent_as {out = out} {n = n} {out' = out'} e h = subst (λ (x : Reply). Sent x out n out') e h

reply_number : (n i : ℕ) → (reply_of n (one_word i)).number ≡ n
unfolding reply_of done_reply refused_reply
reply_number n i = go (eqb n 0) refl
  where
    go : (b : Bool) → eqb n 0 ≡ b → (cond b (one_word i) (refused_reply n)).number ≡ n
    go true e = sym (eqb-true n 0 e)
    go false e = refl

-- the number of a reply is the number that it is a reply for
pub number_of : (r : Reply) (n i : ℕ) → r ≡ reply_of n (one_word i) → r.number ≡ n
number_of r n i e = ap (λ (x : Reply). x.number) e ∙ reply_number n i
