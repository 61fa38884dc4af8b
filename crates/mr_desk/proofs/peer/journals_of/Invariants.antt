use Rattle.std.proofs.Common.{◌≡◌, map, take, true}
use Rattle.mr_desk.proofs.Names.{is_author, list_all}
use Rattle.mr_desk.specs.Peer.{journal_by}
use Rattle.mr_desk.proofs.peer.journals_of.Given as goal

-- the journals so far are those that were handed over, and each has an author's id
abbrev pub invariant-loop-born : goal.invariant-loop-born
invariant-loop-born l = record {
  named : list_all (λ b. is_author b.author) (take l.born-index l.births) ≡ true;
  journals : l.journals.items ≡ map journal_by (take l.born-index l.births);
}
