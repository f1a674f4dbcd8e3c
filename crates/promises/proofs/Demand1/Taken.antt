-- An entry gets 0 exactly when what is lent, its record and the plan are in order: test by test. Assumes nothing.
use Prim.Native.Nat.{ℕ, ◌+◌, ◌*◌, ◌<◌, ◌≤◌}
use mathlib.Core.Path.{◌≡◌}
use mathlib.Core.Logic.{◌↔◌}
use mathlib.Core.Bool.{Bool}
use mathlib.Core.List.{List}
use Rattle.scalar.specs.F32.{f1}
use Rattle.words.specs.Lists.{All}
use Rattle.refusals.specs.Ranges.{up_to, within_up_to}
use Rattle.plan.specs.Sections.{Section, materials, lights, args_row, cutter_places, cuts_most}
use Rattle.plan.specs.declared.Material.{Material}
use Rattle.plan.specs.Records.{material_at, light_at, head_at}
use Rattle.plan.specs.Plan.{cuts_by, count_of, seen, plan_in}
use Rattle.plan_test.specs.declared.Solids.{Solids}
use Rattle.record_test.specs.Numbers.{material_number, light_number}
use Rattle.plan_test.specs.Tests.{solids_of}
use Rattle.record_test.specs.Exact.{CutterOk, HeadOk}
use Rattle.plan_test.specs.Exact.{CountsOk, SoundSolids}
use Rattle.record_test.proofs.Numbers.{own_exact, cuts_exact, light_exact}
use Rattle.plan_test.proofs.Exact.{counts_exact, solids_exact, solids_used}
use Rattle.plan_write.specs.Written.{arg_cuts, section_of}
use Rattle.plan_entry.specs.Entry.{arg_cuts_number, args_number, room_number, piece_number}
use Rattle.plan_entry.specs.Entry.{record_number}
use Rattle.promises.specs.Demand1.{MaterialOk, MaterialTaken, LightTaken, PieceTaken}
use Rattle.promises.proofs.Exact.{lower_exact, unless_exact, cond_exact, and_exact, leb_exact, ltb_exact}
use Rattle.promises.proofs.Exact.{told_exact}
use Rattle.plan_entry.proofs.Made.{materials_of, lights_of, pieces_of}

-- ---- a material, or a light
material_exact : (m : Material) → (material_number m ≡ 0) ↔ MaterialOk m
unfolding material_number
material_exact m =
    let a : Bool = within_up_to m.albedo f1 in
    let r : Bool = up_to m.roughness f1 in
    let c : Bool = up_to m.metallic f1 in
    let e = unless_exact 0 (and_exact (told_exact a) (and_exact (told_exact r) (told_exact c))) in (
      λ z. let x = e.0 z in record { albedo = x.0; roughness = x.1.0; metallic = x.1.1 },
      λ k. e.1 (k.albedo, (k.roughness, k.metallic)),
    )

-- a record's number, whatever the record
record_exact
    : {before own : ℕ} {P Q : Type 0} (s : Section) (w : List ℕ)
    → (before ≡ 0) ↔ P
    → (own ≡ 0) ↔ Q
    → (record_number before own s w ≡ 0) ↔ ((P × Q) × (CountsOk (plan_in w) × (count_of s w < s.most)))
unfolding record_number
record_exact s w p q =
    lower_exact (lower_exact p q)
    (unless_exact 1 (and_exact (counts_exact (plan_in w)) (ltb_exact (count_of s w) s.most)))

module _ (before : ℕ) (P : Type 0) (p : (before ≡ 0) ↔ P) (w : List ℕ) where
  pub material_taken
      : (record_number before (material_number (material_at (seen w) args_row)) materials w ≡ 0)
      ↔ (P × MaterialTaken w)
  material_taken =
      let e = record_exact materials w p (material_exact (material_at (seen w) args_row)) in (
        λ z. let x = e.0 z in
            (x.0.0, record { ok = x.0.1; counts = x.1.0; room = rw (materials_of w) x.1.1 }),
        λ x. let t = x.1 in e.1 ((x.0, t.ok), (t.counts, rw (materials_of w) at t.room)),
      )

  pub light_taken
      : (record_number before (light_number (light_at (seen w) args_row)) lights w ≡ 0) ↔ (P × LightTaken w)
  light_taken =
      let e = record_exact lights w p (light_exact (light_at (seen w) args_row)) in (
        λ z. let x = e.0 z in
            (x.0.0, record { ok = x.0.1; counts = x.1.0; room = rw (lights_of w) x.1.1 }),
        λ x. let t = x.1 in e.1 ((x.0, t.ok), (t.counts, rw (lights_of w) at t.room)),
      )

-- ---- a piece: its own words, its cutters, the plan's solids, its room
module _ (before : ℕ) (P : Type 0) (p : (before ≡ 0) ↔ P) (among : Bool) (bytes : ℕ) (w : List ℕ) where
  abbrev n : ℕ
  n = arg_cuts w

  abbrev s : Solids
  s = solids_of (plan_in w)

  abbrev Own : Type 0
  Own = HeadOk among (count_of materials w) (head_at w (seen w) args_row)

  abbrev Cutters : Type 0
  Cutters = ((n ≤ cuts_most) × (64 + 64 * n ≤ bytes)) × All CutterOk (cuts_by w (seen w) (args_row + 1) n)

  abbrev Room : Type 0
  Room = (count_of (section_of among) w < (section_of among).most) × (s.planes + (s.objects + n) ≤ cutter_places)

  cutters_exact : (arg_cuts_number w (seen w) bytes n ≡ 0) ↔ Cutters
  unfolding arg_cuts_number
  cutters_exact =
      cond_exact 1 (and_exact (leb_exact n cuts_most) (leb_exact (64 + 64 * n) bytes))
      (cuts_exact (cuts_by w (seen w) (args_row + 1) n))

  piece_parts
      : (piece_number before among w (seen w) s bytes ≡ 0)
      ↔ (P × ((Own × Cutters) × (SoundSolids (plan_in w) × Room)))
  unfolding piece_number args_number room_number head_at
  piece_parts =
      lower_exact p
      (lower_exact
      (lower_exact (own_exact among (count_of materials w) (head_at w (seen w) args_row)) cutters_exact)
      (lower_exact (solids_exact (plan_in w))
      (unless_exact 1
      (and_exact (ltb_exact (count_of (section_of among) w) (section_of among).most)
      (leb_exact (s.planes + (s.objects + n)) cutter_places)))))

  pub piece_taken : (piece_number before among w (seen w) s bytes ≡ 0) ↔ (P × PieceTaken among bytes w)
  piece_taken = (
    λ e.
        let x = piece_parts.0 e in
        let cut = x.1.0.1 in
        let sound = x.1.1.0 in
        let fit = x.1.1.1 in
        let u = solids_used (plan_in w) ((solids_exact (plan_in w)).1 sound) in (
          x.0,
          record {
            own = rw (materials_of w) x.1.0.0;
            few = cut.0.0;
            whole = cut.0.1;
            cuts = cut.1;
            sound = sound;
            room = rw (pieces_of among w) fit.0;
            places = rw (← u.0, ← u.1) fit.1;
          },
        ),
    λ x.
        let t = x.1 in
        let u = solids_used (plan_in w) ((solids_exact (plan_in w)).1 t.sound) in
        piece_parts.1 (
          x.0,
          (
            (rw (materials_of w) at t.own, ((t.few, t.whole), t.cuts)),
            (t.sound, (rw (pieces_of among w) at t.room, rw (u.0, u.1) t.places)),
          ),
        ),
  )
