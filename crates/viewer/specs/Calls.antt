-- What each call replies to the bytes that are lent; out is the length of `out`.
use Rattle.std.specs.Prelude.{ℕ, List, length, Float}
use Rattle.sdf.specs.declared.Shape.{Shape}
use Rattle.words.specs.Words.{word_at}
use Rattle.refusals.specs.Prims.{shape_of}
use Rattle.plan.specs.declared.Material.{Material}
use Rattle.plan.specs.Plan.{seen}
use Rattle.quad.specs.declared.Quad.{Quad}
use Rattle.reply.specs.declared.Reply.{Reply}
use Rattle.wire.specs.Lent.{lent_of, given_float, given_vec, ask_table}
use Rattle.wire_lengths.specs.Lengths.{args_before, ask_before}
use Rattle.bemitondry_values.specs.Values.{root_reply, acos_reply, prim_dist_reply, prim_bounds_reply}
use Rattle.bemitondry_emitter.specs.Emitter.{emitter_reply}
use Rattle.bemitondry_values.specs.Light.{form_factor_reply, fresnel_reply, f0_reply, diffuse_albedo_reply}

unfoldable pub root_lent : List ℕ → ℕ → Reply
root_lent args out = root_reply (args_before 4 (length args) out) (given_float (lent_of args 4) 0)

unfoldable pub acos_lent : List ℕ → ℕ → Reply
acos_lent args out = acos_reply (args_before 4 (length args) out) (given_float (lent_of args 4) 0)

abbrev pub given_shape : List ℕ → Shape  -- a primitive: its kind, then its eight words
given_shape a = shape_of (word_at a 0) (given_vec a 1) (given_vec a 4) (given_float a 7) (given_float a 8)

unfoldable pub prim_dist_lent : List ℕ → ℕ → Reply
prim_dist_lent args out =
    prim_dist_reply (args_before 48 (length args) out) (word_at (lent_of args 48) 0) (given_shape (lent_of args 48))
    (given_vec (lent_of args 48) 9)

unfoldable pub prim_bounds_lent : List ℕ → ℕ → Reply
prim_bounds_lent args out =
    prim_bounds_reply (args_before 36 (length args) out) (word_at (lent_of args 36) 0) (given_shape (lent_of args 36))

abbrev pub given_quad : List ℕ → Quad
given_quad a = record { v0 = given_vec a 0; v1 = given_vec a 3; v2 = given_vec a 6; v3 = given_vec a 9 }

unfoldable pub given_material : List ℕ → Material
given_material a = record { albedo = given_vec a 0; roughness = given_float a 3; metallic = given_float a 4 }

unfoldable pub form_factor_lent : List ℕ → ℕ → Reply
form_factor_lent args out = form_factor_reply (args_before 48 (length args) out) (given_quad (lent_of args 48))

unfoldable pub fresnel_lent : List ℕ → ℕ → Reply
fresnel_lent args out =
    fresnel_reply (args_before 16 (length args) out) (given_float (lent_of args 16) 0) (given_vec (lent_of args 16) 1)

unfoldable pub f0_lent : List ℕ → ℕ → Reply
f0_lent args out = f0_reply (args_before 20 (length args) out) (given_material (lent_of args 20))

unfoldable pub diffuse_albedo_lent : List ℕ → ℕ → Reply
diffuse_albedo_lent args out = diffuse_albedo_reply (args_before 20 (length args) out) (given_material (lent_of args 20))

unfoldable pub emitter_lent : List ℕ → List ℕ → ℕ → Reply  -- lights are records of fifteen words
emitter_lent lights args out =
    emitter_reply (args_before 28 (length args) out) lights (given_vec (lent_of args 28) 0) (given_vec (lent_of args 28) 3)
    (given_float (lent_of args 28) 6)

abbrev pub Ask : Type 0  -- what applies before, `tree`, the table as words and as floats
Ask = ℕ → ℕ → List ℕ → List Float → Reply

abbrev pub ask_reply : Ask → ℕ → List ℕ → List ℕ → List ℕ → ℕ → List ℕ → ℕ → Reply
ask_reply call need plan nodes order tree args out =
    call (ask_before need (length plan) (length nodes) (length order) tree (length args) out) tree
    (ask_table need plan nodes order tree args)
    (seen (ask_table need plan nodes order tree args))
