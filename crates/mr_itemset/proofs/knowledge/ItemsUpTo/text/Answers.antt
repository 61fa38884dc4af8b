use Rattle.std.proofs.Common.{◌∙◌, ap}
use Rattle.mr_concise.specs.Fragments.{knowledge_text}
use Rattle.mr_itemset.proofs.ShownLemmas.{text_shown}
use Rattle.mr_itemset.proofs.knowledge.ItemsUpTo.text.Goals as goal

pub returns-clause-ok : goal.returns-clause-ok
returns-clause-ok g c =
    c.in_ok-knowledge_text.ensures ∙ ap knowledge_text c.deref.ensures.value
    ∙ text_shown c.args.self.now c.in_ok-fragments.fragments.items c.in_ok-fragments.ensures.are
