use Rattle.std.proofs.Common.{◌≡◌, ◌&&◌, ◌||◌, take}
use Rattle.mr_forms.proofs.Names.{Name, has_pair, is_listed, list_any, name_eq, pair}
use Rattle.mr_forms.proofs.plain_knowledge.PlainKnowledge.learn_versions.Given as goal

-- with what is known, the pairs of the items up to here are all listed
abbrev pub invariant-loop-item : goal.invariant-loop-item
invariant-loop-item l = (i v : Name) → (has_pair l.missing.items (pair i v) || has_pair l.self-inside.pairs.keys (pair i v)) ≡ ((list_any (λ item. name_eq item i) (take l.item-index l.items) && is_listed l.versions v) || has_pair l.self-inside.pairs.keys (pair i v))
