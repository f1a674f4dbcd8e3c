-- "A piece and its cutters enter together or nothing changes": by each entry's theorem, and of runs. Assumes nothing.
pub mod Writes
pub mod Taken
pub mod Entries
pub mod Runs
pub mod Given
pub mod Small
pub mod Reached
pub mod Remade
pub mod Witness
use mathlib.Core.Bool.{true, false}
use Rattle.wire.specs.Lent.{plan_table}
use Rattle.promises.specs.Demand1.{DemandOne}
use Rattle.promises.proofs.Replies.{sent_number}
use Rattle.plan_entry.proofs.Made.{materials_of, lights_of, pieces_of}
use Rattle.promises.proofs.Alone.{alone}
use Rattle.promises.proofs.Demand1.Entries.{entry_enters, entry_answers, tree_drops, material_entry_lem}
use Rattle.promises.proofs.Demand1.Entries.{light_entry_lem, plane_entry, object_entry}
use Rattle.promises.proofs.Demand1.Runs.{zero_bytes, runs_pass}

pub demand_one : DemandOne
demand_one =
    record {
      material_enters = λ plan args out n plan' out' e.
          let w = plan_table 20 plan args in
          (entry_enters (material_entry_lem plan args out) e, entry_answers e (materials_of w));
      light_enters = λ plan args out n plan' out' e.
          let w = plan_table 60 plan args in
          (entry_enters (light_entry_lem plan args out) e, entry_answers e (lights_of w));
      plane_enters = λ plan args out n plan' out' e.
          let w = plan_table 64 plan args in
          (entry_enters (plane_entry plan args out) e, entry_answers e (pieces_of true w));
      object_enters = λ plan nodes order args out n plan' nodes' order' out' e.
          let w = plan_table 64 plan args in
          let i = sent_number _ _ e.piece.sent in (
            entry_enters (object_entry plan args out nodes order) e.piece,
            (entry_answers e.piece (pieces_of false w), (tree_drops i e.nodes_is, tree_drops i e.order_is)),
          );
      zero_bytes = zero_bytes;
      alone = alone;
      runs_pass = runs_pass;
    }
