use Rattle.std.proofs.Common.{take}
use Rattle.mr_forms.proofs.Names.{AreSame, plain_known}
use Rattle.mr_forms.proofs.MergedLemmas.{after_all}
use Rattle.mr_forms.proofs.plain_knowledge.PlainKnowledgeKnowledge.with_fragments.Given as goal

-- the fragments so far are merged
abbrev pub invariant-loop-fragment : goal.invariant-loop-fragment
invariant-loop-fragment g l = AreSame (plain_known l.knowledge) (after_all g.S.VersionSet.has (plain_known l.fn.self) (take l.fragment-index l.fn.fragments))
