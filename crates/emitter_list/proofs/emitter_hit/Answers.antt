-- `emitter_list::emitter_hit` meets its contract: more lights than 16 are refused as asked, and of the others each is
-- judged. Assumes nothing.
use Rattle.std.proofs.Common.{◌≡◌, ℕ, ◌<◌, ◌≤◌, true, false, List, length, sym, ◌∙◌, arith}
use mathlib.Core.Bool.{true≢false}
use borrow.Author.Tests.{ne_eqb, lt-leb, le-leb}
use lib.Ieee.{Float}
use Rattle.vectors.specs.declared.Vec3.{Vec3}
use Rattle.plan.specs.declared.QuadLight.{QuadLight}
use Rattle.refusals.specs.Refusals.{lower, lowest_of}
use Rattle.refusals.proofs.Lowest.{unless_zero, lower_zero, lower_none}
use Rattle.record_test.specs.Numbers.{light_number}
use Rattle.std.specs.Prelude.{Option}
use Rattle.emitter.specs.declared.Emitted.{Emitted}
use Rattle.emitter.specs.Emitter.{emitter_of}
use Rattle.reply.specs.declared.Reply.{Reply}
use Rattle.reply.specs.Reply.{refused_reply, reply_of}
use Rattle.bemitondry_emitter.specs.Emitter.{emitted_reply}
use Rattle.emitter_list.specs.List.{few, judged, asked_number, list_number, list_reply}
use Rattle.emitter_list.proofs.emitter_hit.Goals as goal

refuses : (a : ℕ) → (a ≡ 0 → ⊥) → (r : Reply) → reply_of a r ≡ refused_reply a
unfolding reply_of
refuses a h r = rw (ne_eqb a 0 h)

module _ (ys : List QuadLight) (ro rd : Vec3) (tmax : Float) where
  asked_many : few (length ys) ≡ false → asked_number (length ys) ro rd tmax ≡ 0 → ⊥
  unfolding asked_number
  asked_many e z = true≢false (sym ((unless_zero 1 (few (length ys))).0 ((lower_zero _ _).0 z).0) ∙ e)

  many_is : (a : ℕ) (r : Reply) → 16 < length ys → a ≡ asked_number (length ys) ro rd tmax
      → r ≡ refused_reply a → r ≡ list_reply ys ro rd tmax
  unfolding few judged list_number list_reply lowest_of
  many_is a r h e g =
      let m : few (length ys) ≡ false = lt-leb (length ys) 16 h in
      rw (g, e, m, lower_none (asked_number (length ys) ro rd tmax)) (sym (refuses _ (asked_many m) _))

  few_is : (a m k : ℕ) (e : Option Emitted) (t r : Reply) → length ys ≤ 16
      → a ≡ asked_number (length ys) ro rd tmax → m ≡ lowest_of light_number ys → k ≡ lower a m
      → e ≡ emitter_of ys ro rd tmax → t ≡ emitted_reply e → r ≡ reply_of k t → r ≡ list_reply ys ro rd tmax
  unfolding few judged list_number list_reply
  few_is a m k e t r h ea em ek ee et er =
      let s : few (length ys) ≡ true = le-leb (length ys) 16 h in
      rw (s, er, et, ek, ea, em, ee)

pub returns-then-n-gt16 : goal.returns-then-n-gt16
returns-then-n-gt16 c = many_is _ _ _ _ _ _ c.if-n-gt16.true c.asked_number-asked.ensures c.refused.ensures

pub returns : goal.returns
returns c =
    few_is _ _ _ _ _ _ _ _ _ _ (omega arith) c.asked_number-asked.ensures c.lights_number.ensures c.lower-number.ensures
    c.emitter_among-best.ensures c.emitted_reply.ensures c.reply_of.ensures
