use Rattle.mr_talk.proofs.GrammarLaws.{runs_talk, talk_runs}
use Rattle.mr_talk.proofs.laws.accepted_talks_are_talks.Goals as goal

pub returns-clause-accepted : goal.returns-clause-accepted
returns-clause-accepted c = runs_talk

pub returns-clause-talks : goal.returns-clause-talks
returns-clause-talks c = talk_runs
