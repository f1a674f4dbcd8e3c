-- What an entry answers, as a reply: the number of what entered where its number is 0. Assumes nothing.
use Prim.Native.Nat.{ℕ}
use mathlib.Core.Path.{◌≡◌, refl, ◌∙◌, ap}
use mathlib.Core.Bool.{Bool, true, false, cond}
use mathlib.Core.List.{List}
use lib.Dec.{eqb}
use Rattle.std.specs.Prelude.{Result, Ok, Err}
use Rattle.plan_entry.specs.Inside.Adds.{added_of, AddsOne}
use Rattle.reply.specs.declared.Reply.{Reply}
use Rattle.reply.specs.Reply.{refused_reply, one_word, reply_of}
use Rattle.bemitondry_entry.specs.Inside.Enters.{added_reply, EntersTable}

added_as : (number index : ℕ) → added_reply (added_of number index) ≡ reply_of number (one_word index)
unfolding added_reply added_of reply_of
added_as number index = go (eqb number 0)
  where
    go
        : (b : Bool) → added_reply (cond b (Ok index) (Err number)) ≡ cond b (one_word index)
        (refused_reply number)
    go true = refl
    go false = refl

pub enters_table : (number index : ℕ) (w left : List ℕ) (a : Result ℕ ℕ) (w' : List ℕ) (r : Reply)
    → AddsOne number index w left a w' → r ≡ added_reply a → EntersTable number index w left r w'
enters_table number index w left a w' r e h =
    record { reply = h ∙ ap added_reply e.answer ∙ added_as number index; table = e.table }
