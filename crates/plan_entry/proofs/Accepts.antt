-- What an entry that gets 0 was given: a plan in order, room for the record, and a record in order. Test by test.
-- Assumes nothing.
use Prim.Native.Nat.{ℕ, ◌+◌, ◌*◌, ◌<◌, ◌≤◌}
use mathlib.Core.Path.{◌≡◌}
use mathlib.Core.Bool.{Bool, true, ◌&&◌, and-eq-true_iff}
use mathlib.Core.List.{List}
use lib.Dec.{leb, ltb}
use borrow.Author.Tests.{leb-true, ltb-true}
use Rattle.words.specs.Lists.{All}
use Rattle.refusals.specs.Refusals.{no_room, lower, unless}
use Rattle.refusals.proofs.Lowest.{cond_zero, unless_zero, lower_zero}
use Rattle.plan.specs.Sections.{Section, args_row, materials}
use Rattle.plan.specs.Records.{head_at}
use Rattle.plan.specs.Plan.{cuts_by, count_of, seen, plan_in}
use Rattle.plan_test.specs.declared.Solids.{Solids}
use Rattle.record_test.specs.Numbers.{cuts_number, own_number}
use Rattle.plan_test.specs.Tests.{counts_ok, solids_of}
use Rattle.record_test.specs.Exact.{CutterOk, HeadOk}
use Rattle.record_test.proofs.Numbers.{own_exact, cuts_exact}
use Rattle.plan_write.specs.Written.{arg_cuts, section_of}
use Rattle.plan_entry.specs.Entry.{arg_cuts_number, args_number, room_number, piece_number}
use Rattle.plan_entry.specs.Entry.{record_number}

-- ---- a piece
record Room (m limit : ℕ) (s : Solids) (n : ℕ) : Type 0 where
  number : s.number ≡ 0
  count : m < limit
  room : s.planes + (s.objects + n) ≤ 1024

room_for : (m limit : ℕ) (s : Solids) (n : ℕ) → room_number m limit s n ≡ 0 → Room m limit s n
unfolding room_number
room_for m limit s n e =
    let total : ℕ = s.planes + (s.objects + n) in
    let p = (lower_zero s.number (unless no_room (ltb m limit && leb total 1024))).0 e in
    let q = (unless_zero 1 (ltb m limit && leb total 1024)).0 p.1 in
    let t = (and-eq-true_iff (ltb m limit) (leb total 1024)).0 q in
    record { number = p.0; count = ltb-true m limit t.0; room = leb-true total 1024 t.1 }

pub record Accepted (among : Bool) (w : List ℕ) : Type 0 where
  pub solids : (solids_of (plan_in w)).number ≡ 0
  pub count : count_of (section_of among) w < (section_of among).most
  pub room : (solids_of (plan_in w)).planes + ((solids_of (plan_in w)).objects + arg_cuts w) ≤ 1024
  pub own : HeadOk among (count_of materials w) (head_at w (seen w) args_row)
  pub few : arg_cuts w ≤ 8
  pub cuts : All CutterOk (cuts_by w (seen w) 1394 (arg_cuts w))

pub accepted
    : (before : ℕ) (among : Bool) (w : List ℕ) (bytes : ℕ)
    → piece_number before among w (seen w) (solids_of (plan_in w)) bytes ≡ 0
    → Accepted among w
unfolding piece_number args_number arg_cuts_number head_at
accepted before among w bytes e =
    let s : Solids = solids_of (plan_in w) in
    let n : ℕ = arg_cuts w in
    let room : ℕ = room_number (count_of (section_of among) w) (section_of among).most s n in
    let own : ℕ = own_number among (count_of materials w) (head_at w (seen w) args_row) in
    let cuts : ℕ = arg_cuts_number w (seen w) bytes n in
    let a = (lower_zero before (lower (lower own cuts) room)).0 e in
    let b = (lower_zero (lower own cuts) room).0 a.1 in
    let c = (lower_zero own cuts).0 b.0 in
    let d = (cond_zero (leb n 8 && leb (64 + 64 * n) bytes) (cuts_number (cuts_by w (seen w) 1394 n)) 1).0 c.1 in
    let q = (and-eq-true_iff (leb n 8) (leb (64 + 64 * n) bytes)).0 d.0 in
    let g = room_for (count_of (section_of among) w) (section_of among).most s n b.1 in
    record {
      solids = g.number;
      count = g.count;
      room = g.room;
      own = (own_exact among (count_of materials w) (head_at w (seen w) args_row)).0 c.0;
      few = leb-true n 8 q.0;
      cuts = (cuts_exact (cuts_by w (seen w) 1394 n)).0 d.1;
    }

-- ---- a material, or a light
pub record Taken (own : ℕ) (s : Section) (w : List ℕ) : Type 0 where
  pub number : own ≡ 0
  pub counts : counts_ok (plan_in w) ≡ true
  pub count : count_of s w < s.most

pub taken : (before own : ℕ) (s : Section) (w : List ℕ) → record_number before own s w ≡ 0 → Taken own s w
unfolding record_number
taken before own s w e =
    let full : Bool = counts_ok (plan_in w) && ltb (count_of s w) s.most in
    let p = (lower_zero (lower before own) (unless no_room full)).0 e in
    let t = (and-eq-true_iff (counts_ok (plan_in w)) (ltb (count_of s w) s.most)).0 ((unless_zero 1 full).0 p.1) in
    record {
      number = ((lower_zero before own).0 p.0).1;
      counts = t.0;
      count = ltb-true (count_of s w) s.most t.1;
    }
