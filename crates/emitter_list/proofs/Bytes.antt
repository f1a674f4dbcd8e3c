-- The call on bytes and the call on a list agree: whole records, at most 16, get the reply of the list of their lights.
use Prim.Native.Nat.{ℕ, ◌/◌, ◌%◌, ◌≤◌}
use mathlib.Core.Path.{◌≡◌, refl}
use mathlib.Core.Bool.{true, and-eq-true_iff}
use mathlib.Core.List.{List}
use native.Mathlib.Omega.{arith}
use lib.ListN.{length}
use lib.Dec.{leb, eqb}
use lib.Ieee.{Float}
use lib.Ieee.Nearest.{div_mono}
use borrow.Author.Tests.{leb-true, le-leb}
use Rattle.vectors.specs.declared.Vec3.{Vec3}
use Rattle.words.proofs.Runs.{length_from}
use Rattle.refusals.specs.Refusals.{lower}
use Rattle.bemitondry_emitter.specs.Emitter.{records_ok, records_in, lent_light, lent_lights, emitter_number}
use Rattle.bemitondry_emitter.specs.Emitter.{emitter_reply}
use Rattle.emitter_list.specs.List.{few, judged, asked_number, list_number, list_reply}

none_first : (n : ℕ) → lower 0 n ≡ n
unfolding lower
none_first n = refl

few_records : (bytes : ℕ) → records_ok bytes ≡ true → few (records_in bytes) ≡ true
unfolding few records_in records_ok
few_records bytes e =
    let most : bytes ≤ 960 = leb-true bytes 960 ((and-eq-true_iff (eqb (bytes % 60) 0) (leb bytes 960)).0 e).1 in
    rw e (le-leb (bytes / 60) 16 (div_mono bytes 60 16 1 (omega arith) (omega arith) (omega arith)))

pub bytes_as_list : (b : List ℕ) (ro rd : Vec3) (tmax : Float) → records_ok (length b) ≡ true
    → emitter_reply 0 b ro rd tmax ≡ list_reply (lent_lights b) ro rd tmax
unfolding emitter_reply emitter_number list_reply list_number asked_number judged
bytes_as_list b ro rd tmax e =
    let s : few (length (lent_lights b)) ≡ true =
    rw (length_from (lent_light b) 0 (records_in (length b))) (few_records (length b) e) in
    rw (none_first, s, e)
