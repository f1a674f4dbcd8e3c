-- What a call leaves: an `out` shorter than 16 words "stays as it was whatever number is sent".
use Rattle.std.specs.Prelude.{ℕ, ◌≡◌, Bool, cond, List, ◌++◌, length, drop, replicate, leb}
use Rattle.words.specs.Words.{sent_words}
use Rattle.reply.specs.declared.Reply.{Reply}

unfoldable pub cleared_front : List ℕ → ℕ → List ℕ  -- the first n bytes 0
cleared_front b n = cond (leb n (length b)) (replicate n 0 ++ drop n b) b

unfoldable pub cleared : Bool → List ℕ → ℕ → List ℕ
cleared clears b n = cond clears (cleared_front b n) b

-- a call that replies r leaves its number, and the bytes of `out`
pub record Sent (r : Reply) (out : List ℕ) (n : ℕ) (out' : List ℕ) : Type 0 where
  pub number_is : n ≡ r.number
  pub out_is : out' ≡ sent_words out r.words
