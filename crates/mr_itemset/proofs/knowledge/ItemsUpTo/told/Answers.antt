use Rattle.std.proofs.Common.{map, subst, lit<}
use Rattle.mr_itemset.proofs.Names.{AllZip, ArePartsThat, AreSame, IsSparest, IsToldOf, IsToldPart, Normal, all_covered, folded, fragments_in, normal_known}
use Rattle.mr_itemset.proofs.Names.{part_of, shown, vector_has}
use Rattle.mr_itemset.proofs.FoldedLemmas.{folded_normal, kept_fits-all, kept_fits-listed}
use Rattle.mr_itemset.proofs.ToldParts.{told_sparest, told_fragments_known, told_fragments_items, told_fragments_parts}
use Rattle.mr_itemset.proofs.knowledge.ItemsUpTo.told.Goals as goal

pub told-requires : goal.told-requires
told-requires g c = (
  lit< tt,
  (
    c.self.invariant.vector_ok,
    (
      kept_fits-all c.self.inside.settled c.self.inside.pending c.self.inside.most_holes c.self.invariant,
      kept_fits-listed c.self.inside.settled c.self.inside.pending c.self.inside.most_holes c.self.invariant,
    ),
  ),
)

pub returns-clause-are : goal.returns-clause-are
returns-clause-are g c =
    subst (λ (k : Normal). AllZip (IsToldOf k.all) (fragments_in k) (map shown c.in_ok-told.field-0.items)) c.self.view_is c.in_ok-told.ensures.are

pub returns-clause-fewest : goal.returns-clause-fewest
returns-clause-fewest g c =
    subst (λ (k : Normal). AllZip (IsSparest k.all) (fragments_in k) (map shown c.in_ok-told.field-0.items)) c.self.view_is
    (told_sparest (folded c.self.inside.settled c.self.inside.pending).all (fragments_in (folded c.self.inside.settled c.self.inside.pending)) (map shown c.in_ok-told.field-0.items) c.in_ok-told.ensures.are)

pub returns-clause-ok : goal.returns-clause-ok
returns-clause-ok g c =
    subst (λ (k : Normal). AreSame (normal_known k) (all_covered vector_has c.in_ok-told.field-0.items)) c.self.view_is
    (told_fragments_known (folded c.self.inside.settled c.self.inside.pending) c.in_ok-told.field-0.items (folded_normal c.self.inside.settled c.self.inside.pending c.self.inside.most_holes c.self.invariant) c.in_ok-told.ensures.are)

pub returns-clause-items : goal.returns-clause-items
returns-clause-items g c = told_fragments_items (folded c.self.inside.settled c.self.inside.pending) c.in_ok-told.field-0.items (folded_normal c.self.inside.settled c.self.inside.pending c.self.inside.most_holes c.self.invariant) c.in_ok-told.ensures.are

pub returns-clause-parts : goal.returns-clause-parts
returns-clause-parts g c =
    subst (λ (k : Normal). ArePartsThat (IsToldPart k) (map (part_of vector_has) c.in_ok-told.field-0.items)) c.self.view_is
    (told_fragments_parts (folded c.self.inside.settled c.self.inside.pending) c.in_ok-told.field-0.items (folded_normal c.self.inside.settled c.self.inside.pending c.self.inside.most_holes c.self.invariant) c.in_ok-told.ensures.are)
