-- What each public call on single values replies. before is a number that applies already.
use Rattle.std.specs.Prelude.{ℕ, Option, Some, None, Float}
use Rattle.root.specs.Root.{root_of}
use Rattle.scalar.specs.F32.{f1}
use Rattle.scalar.specs.Ranges.{magnitude}
use Rattle.scalar.specs.Acos.{acos_of}
use Rattle.vectors.specs.declared.Vec3.{Vec3}
use Rattle.sdf.specs.declared.Shape.{Shape}
use Rattle.sdf.specs.declared.Aabb.{Aabb}
use Rattle.sdf.specs.Shapes.{dist_of}
use Rattle.sdf.specs.Boxes.{bounds_of}
use Rattle.refusals.specs.Refusals.{bad_number, wrong_list, unless, lower}
use Rattle.refusals.specs.Ranges.{greatest, farthest, up_to, within}
use Rattle.refusals.specs.Prims.{prim_number}
use Rattle.reply.specs.declared.Reply.{Reply}
use Rattle.reply.specs.Reply.{bits, refused_reply, done_reply, one_word, reply_of}

unfoldable pub float_reply : ℕ → Float → Reply
float_reply n x = reply_of n (one_word (bits x))

abbrev pub box_words : Aabb → Reply
box_words b =
    done_reply (bits b.lo.x) (bits b.lo.y) (bits b.lo.z)
    (bits b.hi.x) (bits b.hi.y) (bits b.hi.z) 0 0

unfoldable pub box_reply : ℕ → Option Aabb → Reply  -- a plane has no box, and gets 5
box_reply n (Some b) = reply_of n (box_words b)
box_reply n None = refused_reply (lower n wrong_list)

unfoldable pub root_reply : ℕ → Float → Reply  -- "Root takes 0 to `f32::MAX`"
root_reply before x = float_reply (lower before (unless bad_number (up_to x greatest))) (root_of x)

unfoldable pub acos_reply : ℕ → Float → Reply  -- "arc cosine -1 to 1"
acos_reply before x = float_reply (lower before (unless bad_number (magnitude x f1))) (acos_of x)

unfoldable pub prim_dist_reply : ℕ → ℕ → Shape → Vec3 → Reply  -- "query points to 200,000"
prim_dist_reply before kind s p =
    float_reply (lower before (lower (prim_number kind s) (unless bad_number (within p farthest)))) (dist_of s p)

unfoldable pub prim_bounds_reply : ℕ → ℕ → Shape → Reply
prim_bounds_reply before kind s = box_reply (lower before (prim_number kind s)) (bounds_of s)
