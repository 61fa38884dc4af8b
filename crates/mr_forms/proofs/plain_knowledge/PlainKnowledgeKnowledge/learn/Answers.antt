use Rattle.mr_forms.proofs.Names.{has_pair, is_listed, pair}
use Rattle.mr_forms.proofs.PairLemmas.{learned_pair}
use Rattle.mr_forms.proofs.plain_knowledge.PlainKnowledgeKnowledge.learn.Goals as goal

pub returns-clause-ok : goal.returns-clause-ok
returns-clause-ok c i v =
    rw (← c.self.view_is) (learned_pair (is_listed c.self.inside.for_all v) (has_pair c.insert.new.self.keys (pair i v)) (has_pair c.self.inside.pairs.keys (pair i v)) c.args.item c.args.version i v (c.in_ok-insert.ensures.updates.0 (pair i v)))
