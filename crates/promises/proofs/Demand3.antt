-- The third demand, of the exported calls on bytes: what Offer, Build, Eight and Standing show. Assumes nothing.
pub mod Asked
pub mod SameTree
pub mod Offer
pub mod Build
pub mod Places
pub mod Standing
pub mod Eight
use Prim.Native.Nat.{ℕ}
use mathlib.Core.Path.{◌≡◌, sym, ◌∙◌, ap}
use mathlib.Core.List.{List}
use lib.ListN.{length}
use Rattle.words.specs.Lists.{All}
use Rattle.words.specs.Words.{sent_words}
use Rattle.words.proofs.Runs.{all_map}
use Rattle.plan.specs.Sections.{table_words}
use Rattle.plan.specs.Plan.{seen}
use Rattle.bvh_search.specs.Field.{hit_by}
use Rattle.reply.specs.declared.Reply.{Reply}
use Rattle.wire.specs.Lent.{ask_table}
use Rattle.wire_lengths.specs.Lengths.{ask_before}
use Rattle.ask_test.specs.Numbers.{arg_vec}
use Rattle.bemitondry_ask.specs.Asks.{query_bound, query_reply, dist_mat_reply}
use Rattle.bemitondry_ask.specs.Marches.{trace_reply, shadow_reply}
use Rattle.bemitondry_light.specs.Light.{direct_reply, direct_diffuse_reply}
use Rattle.viewer.specs.Calls.{Ask, ask_reply}
use Rattle.promises.specs.Demand3.{FieldAnswers, field_calls, DemandThree}
use Rattle.promises.proofs.Cases.{◌&◌}
use Rattle.promises.proofs.Replies.{not_refused}
use Rattle.promises.proofs.Demand3.Asked.{ask_length}
use Rattle.promises.proofs.Demand3.Offer.{offer_keeps}
use Rattle.promises.proofs.Demand3.Build.{build_keeps}
use Rattle.promises.proofs.Demand3.Eight.{no_call_eight}
use Rattle.promises.proofs.Demand3.Standing.{query_stands, solids_stand, lit_stand}

-- ---- a call on a whole table whose number is 0
abbrev Fields : Ask → Type 0
Fields ask =
    (before : ℕ) (w : List ℕ)
    → length w ≡ table_words → (ask before 1 w (seen w)).number ≡ 0 → FieldAnswers w

fields_each : All Fields field_calls
unfolding dist_mat_reply trace_reply shadow_reply direct_reply direct_diffuse_reply
fields_each =
    (λ before w l e. solids_stand before w l _ (not_refused _ _ e).0)
    & (λ before w l e. solids_stand before w l _ (not_refused _ _ e).0)
    & (λ before w l e. solids_stand before w l _ (not_refused _ _ e).0)
    & (λ before w l e. lit_stand before w l _ _ (not_refused _ _ e).0)
    & (λ before w l e. lit_stand before w l _ _ (not_refused _ _ e).0)
    & tt

pub demand_three : DemandThree
unfolding query_reply
demand_three =
    record {
      offer = offer_keeps;
      build = build_keeps;
      standing = no_call_eight;
      query = λ plan nodes order args out out' need sent.
          let w = ask_table need plan nodes order 1 args in
          let before
          = ask_before need (length plan) (length nodes) (length order) 1 (length args) (length out) in
          let r = not_refused _ _ (sym sent.number_is) in (
            hit_by 1 w (seen w) (arg_vec (seen w) 0) (query_bound w (seen w)),
            sent.out_is ∙ ap (λ (x : Reply). sent_words out x.words) r.1,
            query_stands before w (ask_length need plan nodes order args) r.0,
          );
      fields = λ plan nodes order args need out.
          let w = ask_table need plan nodes order 1 args in
          all_map Fields
          (λ (ask : Ask). (ask_reply ask need plan nodes order 1 args out).number ≡ 0 → FieldAnswers w)
          (λ ask field.
          field (ask_before need (length plan) (length nodes) (length order) 1 (length args) out) w
          (ask_length need plan nodes order args))
          field_calls fields_each;
    }
