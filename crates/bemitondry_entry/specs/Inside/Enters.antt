-- What an entry on a loaded table replies, and the table that it leaves.
use Rattle.std.specs.Prelude.{ℕ, ◌≡◌, Bool, cond, List, Result, Ok, Err, eqb, Float}
use Rattle.plan.specs.Sections.{materials, lights}
use Rattle.plan.specs.Plan.{count_of}
use Rattle.plan_write.specs.Written.{section_of}
use Rattle.plan_write.specs.Written.{with_material_words, with_light_words}
use Rattle.reply.specs.declared.Reply.{Reply}
use Rattle.reply.specs.Reply.{refused_reply, one_word, reply_of}
use Rattle.bemitondry_entry.specs.Entries.{light_entry, material_entry, piece_entry, piece_left}

unfoldable pub added_reply : Result ℕ ℕ → Reply
added_reply (Err n) = refused_reply n
added_reply (Ok i) = one_word i

-- where the number is 0 the reply is the number of what entered, and the table is `left`
pub record EntersTable (number index : ℕ) (w left : List ℕ) (r : Reply) (w' : List ℕ) : Type 0 where
  pub reply : r ≡ reply_of number (one_word index)
  pub table : w' ≡ cond (eqb number 0) left w

abbrev pub MaterialEnters : ℕ → List ℕ → List Float → Reply → List ℕ → Type 0
MaterialEnters before w f r w' =
    EntersTable (material_entry before w f) (count_of materials w) w (with_material_words w) r w'

abbrev pub LightEnters : ℕ → List ℕ → List Float → Reply → List ℕ → Type 0
LightEnters before w f r w' = EntersTable (light_entry before w f) (count_of lights w) w (with_light_words w) r w'

abbrev pub PieceEnters : ℕ → Bool → List ℕ → List Float → ℕ → Reply → List ℕ → Type 0
PieceEnters before among w f bytes r w' =
    EntersTable (piece_entry before among w f bytes) (count_of (section_of among) w) w (piece_left among w f) r w'
