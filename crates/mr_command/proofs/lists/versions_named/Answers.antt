use Rattle.std.proofs.Common.{inr, refl}
use Rattle.mr_command.proofs.Names.{IsVersionName, name_text, pieces_of}
use Rattle.mr_command.proofs.PieceLemmas.{named-none}
use Rattle.mr_command.proofs.lists.versions_named.Goals as goal

pub returns-in_default-read-clause-fault : goal.returns-in_default-read-clause-fault
returns-in_default-read-clause-fault c =
    inr (
      refl,
      λ versions joins.
          named-none name_text IsVersionName (pieces_of 44 c.args.word.now) c.loop-piece.pieces c.next_piece.new.self c.loop-piece.versions.items c.in-Some.piece.now c.loop-piece.invariant c.in-Some.ensures
          (λ v is spelled. c.in_default-read.not-Ok v (c.read.ensures.whole v is spelled)) versions joins.each joins.joined,
    )
