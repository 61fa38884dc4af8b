use Rattle.std.proofs.Common.{◌∙◌, sym}
use Rattle.mr_forms.specs.PlainPair.{has_pair}
use Rattle.mr_forms.proofs.PairLemmas.{absorbed, appended}
use Rattle.mr_forms.proofs.plain_knowledge.push_missing.Goals as goal

pub returns-in_ok-push-clause-ok : goal.returns-in_ok-push-clause-ok
returns-in_ok-push-clause-ok c p = rw c.in_ok-push.ensures.items (appended (has_pair c.args.known.now.keys p) c.args.missing.now.items c.args.pair p)

pub returns-else-not-contains-clause-ok : goal.returns-else-not-contains-clause-ok
returns-else-not-contains-clause-ok c p = absorbed c.args.known.now.keys c.args.pair p (has_pair c.args.missing.now.items p) (sym c.contains.ensures ∙ c.if-not-contains.false)
