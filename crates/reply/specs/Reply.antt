-- "Every answer is 16 words: those named, the rest 0. A refusal makes all 16 words 0."
use Rattle.std.specs.Prelude.{ℕ, cond, [], ◌∷◌, replicate, eqb, Float}
use Rattle.std.specs.Float.{binary32}
use Rattle.std.specs.Float.Ieee.{to_bits}
use Rattle.reply.specs.declared.Reply.{Reply}

abbrev pub bits : Float → ℕ  -- a float stands as its bits
bits x = to_bits binary32 x

unfoldable pub refused_reply : ℕ → Reply
refused_reply n = record { number = n; words = replicate 16 0 }

unfoldable pub done_reply : ℕ → ℕ → ℕ → ℕ → ℕ → ℕ → ℕ → ℕ → Reply  -- the words named
done_reply a b c d e f g h =
    record { number = 0; words = a ∷ b ∷ c ∷ d ∷ e ∷ f ∷ g ∷ h ∷ 0 ∷ 0 ∷ 0 ∷ 0 ∷ 0 ∷ 0 ∷ 0 ∷ 0 ∷ [] }

abbrev pub one_word : ℕ → Reply
one_word a = done_reply a 0 0 0 0 0 0 0

unfoldable pub reply_of : ℕ → Reply → Reply  -- the reply r, where the number is 0
reply_of n r = cond (eqb n 0) r (refused_reply n)
