use Rattle.std.proofs.Common.{◌≡◌, take}
use Rattle.mr_desk.proofs.Names.{last_under, option_copied}
use Rattle.mr_desk.proofs.ancestor.last_under.Given as goal

abbrev pub invariant-loop-entry : goal.invariant-loop-entry
invariant-loop-entry l = option_copied l.found ≡ last_under l.heads (take l.entry-index l.feed)
