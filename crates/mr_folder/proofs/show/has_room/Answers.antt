use Rattle.std.proofs.Common.{sym, ap, ◌∙◌}
use Rattle.mr_folder.proofs.Names.{false≢true, is_some}
use Rattle.mr_folder.proofs.ShowLemmas.{none_from, room_from, untouched_on}
use Rattle.mr_folder.proofs.show.has_room.Goals as goal

pub returns-then-branch-clause-room : goal.returns-then-branch-clause-room
returns-then-branch-clause-room g c = λ told. (λ no. absurd (false≢true no), λ room. absurd (false≢true (sym (c.in_ok-has.ensures.has told ∙ ap is_some room.free) ∙ c.if-branch.true)))

pub returns-clause-room : goal.returns-clause-room
returns-clause-room g c = λ told. room_from c.has-2.result c.args.from.now c.args.to.now (g.F.FileTree.seen c.args.files.now) (g.F.FileTree.seen c.has.new.self) (c.has-2.ensures.has told) ((c.has.ensures.untouched told).same) (none_from (g.F.FileTree.seen c.args.files.now c.args.to.now) (sym (c.in_ok-has.ensures.has told) ∙ c.if-branch.false))

pub returns-clause-untouched : goal.returns-clause-untouched
returns-clause-untouched g c = λ told. untouched_on (c.has.ensures.untouched told) (c.has-2.ensures.untouched told)
