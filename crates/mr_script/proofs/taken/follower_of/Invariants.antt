use Rattle.std.proofs.Common.{◌≡◌, take, None}
use Rattle.mr_script.proofs.Names.{ShowsFold, taken_of}
use Rattle.mr_script.proofs.taken.follower_of.Given as goal

-- what was taken so far is applied, and nothing waits to be
abbrev pub invariant-loop-answered : goal.invariant-loop-answered
invariant-loop-answered g l =
    ShowsFold g.F.Fold.shows l.follower.fold (taken_of (take l.answered-index l.answers) l.id l.subscriber) × (l.follower.kept ≡ None)
