use Rattle.std.proofs.Common.{◌≡◌, ◌||◌, ◌&&◌, not, All}
use Rattle.mr_forms.proofs.Names.{EndsBy, IsOneByOne, IsSame, IsStrictlySortedBy, Name, beyond_all, had_by_item, had_for_all, has_pair, is_listed, pair}
use Rattle.mr_forms.proofs.Names.{pair_cmp}
use Rattle.mr_forms.proofs.plain_knowledge.PlainKnowledgeKnowledge.fragments.Given as goal

-- The fragments so far and those of the pairs left whose versions are not known for all are all that is known, and the
-- fragments end by what is left.
abbrev pub invariant-loop-pair : goal.invariant-loop-pair
invariant-loop-pair l = record {
  for_all : IsSame (had_for_all l.fragments.items) (is_listed l.fn.self.for_all);
  by_item : (i v : Name) → (had_by_item l.fragments.items i v || (has_pair l.pair-iterator (pair i v) && not (is_listed l.fn.self.for_all v))) ≡ beyond_all l.fn.self i v;
  one_by_one : IsOneByOne l.fragments.items;
  ahead : All (λ p. All (λ f. EndsBy p.item f.items) l.fragments.items) l.pair-iterator;
  sorted : IsStrictlySortedBy pair_cmp l.pair-iterator;
}
