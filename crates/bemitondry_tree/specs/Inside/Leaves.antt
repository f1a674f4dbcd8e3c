-- What a build and an offer on a loaded table reply, and the tables that they leave.
use Rattle.std.specs.Prelude.{ℕ, ◌≡◌, cond, List, eqb, Float}
use Rattle.plan.specs.Plan.{Plan}
use Rattle.bvh_build.specs.Tables.{size_of, nodes_with, order_with}
use Rattle.reply.specs.declared.Reply.{Reply}
use Rattle.reply.specs.Reply.{one_word, reply_of}
use Rattle.bemitondry_tree.specs.Trees.{build_number, judged_tree, no_nodes, no_order, offer_number, offered_nodes}
use Rattle.bemitondry_tree.specs.Trees.{offered_order, size_in}

-- the reply has the number of nodes; both tables are written whole
pub record BuildLeaves (before : ℕ) (p : Plan) (r : Reply) (nodes' order' : List ℕ) : Type 0 where
  pub reply : r ≡ reply_of (build_number before p) (one_word (size_of p))
  pub nodes : nodes' ≡ cond (eqb (build_number before p) 0) (nodes_with p no_nodes) no_nodes
  pub order : order' ≡ cond (eqb (build_number before p) 0) (order_with p no_order) no_order

pub record OfferLeaves (before : ℕ) (w : List ℕ) (f : List Float) (r : Reply) (nodes' order' : List ℕ) : Type 0 where
  pub reply : r ≡ reply_of (offer_number before w f) (one_word (size_in (judged_tree w f)))
  pub nodes : nodes' ≡ cond (eqb (offer_number before w f) 0) (offered_nodes w f) no_nodes
  pub order : order' ≡ cond (eqb (offer_number before w f) 0) (offered_order w f) no_order
