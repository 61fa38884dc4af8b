-- What comes of sending what an answer gives.
use Rattle.std.proofs.Common.{arith}
use Rattle.std.proofs.Common.{◌≡◌, ◌≢◌, List, [], Ok, Err, IsSome, sym, subst}
use Rattle.mr_node.proofs.Names.{Frame, PassesWell, Reply, Snag, WireView, WritesAll, passes_none, reply_frame}
use Rattle.mr_link.specs.declared.snag.Snag.TheVariants as snag

-- a reply that gives no frame
pub nothing_to_send : (old : WireView) (reply : Reply) → reply_frame reply ≡ [] → IsSome old.unread → WritesAll old (reply_frame reply) (Ok tt) old
nothing_to_send old reply none has = subst (λ (given : List Frame). PassesWell old [] given old) (sym none) (passes_none old has)

-- a frame that is sent is no bad one
pub sends_no_bad_frame : (old : WireView) (given : List Frame) (s : Snag) (new : WireView) → WritesAll old given (Err s) new → s ≢ snag.BadFrame
sends_no_bad_frame old given s new h = grind arith
