use Rattle.std.proofs.Common.{◌≡◌, take}
use Rattle.mr_version.specs.Name.{Name}
use Rattle.mr_model.specs.Headline as model
use Rattle.mr_feed.specs.Entry.{told}
use Rattle.mr_feed.specs.Fold.{is_listed, with_card}
use Rattle.mr_feed.proofs.feed.held.Given as goal

-- the entries up to here are folded
abbrev pub invariant-loop-entry : goal.invariant-loop-entry
invariant-loop-entry l = (v : Name) → is_listed l.held.keys v ≡ with_card (model.fold (told (take l.entry-index l.entries))) v
