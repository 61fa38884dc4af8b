use Rattle.std.proofs.Common.{◌≡◌, ◌≤◌, ◌∷◌, [], length, false, sym, ◌∙◌, ap, subst, arith}
use Rattle.mr_filter.proofs.Names.{Greater, IsBinarySearchResult, IsPartitionPoint, IsSearchInRange, IsStrictlySortedBy, Less, has_label, is_ok}
use Rattle.mr_filter.proofs.Names.{length-append, length-map, lent_texts, text_cmp}
use Rattle.mr_filter.proofs.SearchLemmas.{is_ok-binary_search, partition_point}
use Rattle.mr_filter.proofs.PlaceLemmas.{rising-insert, AreLabelsOf-insert, AllPass-insert, AreLabelsOf-again, different_labels-one_more}
use Rattle.mr_filter.proofs.draft.put_label.Goals as goal

pub returns-in_default-clause-put : goal.returns-in_default-clause-put
returns-in_default-clause-put c =
    let found = is_ok-binary_search (λ text. text.now) c.as_slice.result.now c.args.label.now c.binary_search.result (rw c.as_slice.ensures.value c.requires.set.rising) c.binary_search.ensures.bound c.binary_search.ensures.position in
    AreLabelsOf-again (lent_texts c.args.labels.now.items) c.args.label.now c.requires.set.rising
    (rw (← c.as_slice.ensures.value) (sym found ∙ ap is_ok c.in_default.is))

pub returns-then-len-most-clause-many : goal.returns-then-len-most-clause-many
returns-then-len-most-clause-many c =
    let found = is_ok-binary_search (λ text. text.now) c.as_slice.result.now c.args.label.now c.binary_search.result (rw c.as_slice.ensures.value c.requires.set.rising) c.binary_search.ensures.bound c.binary_search.ensures.position in
    let absent : has_label (lent_texts c.args.labels.now.items) c.args.label.now ≡ false = rw (← c.as_slice.ensures.value) (sym found ∙ ap is_ok c.in-Err.is) in
    let count = different_labels-one_more (lent_texts c.args.labels.now.items) c.args.label.now c.requires.set.rising absent in
    let longer = length-append (lent_texts c.args.labels.now.items) (c.args.label.now ∷ []) in
    let long = length-map c.args.labels.now.items (λ text. text.now) in
    omega (arith, count, longer, long)

rising : (c : goal.After-insert) → IsStrictlySortedBy text_cmp (lent_texts c.insert.new.self.items)
rising c =
    let parts = subst (λ r. IsBinarySearchResult (λ text. text_cmp text.now c.args.label.now) c.as_slice.result.now r) c.in-Err.is c.binary_search.ensures.position in
    let place : IsPartitionPoint (λ text. text_cmp text.now c.args.label.now ≡ Less) (λ text. text_cmp text.now c.args.label.now ≡ Greater) c.args.labels.now.items c.in-Err.place =
    rw (← c.as_slice.ensures.value) (partition_point (λ text. text.now) c.as_slice.result.now c.args.label.now c.in-Err.place (rw c.as_slice.ensures.value c.requires.set.rising) parts) in
    let within : c.in-Err.place ≤ length c.args.labels.now.items =
    rw (← c.as_slice.ensures.value) (subst (λ r. IsSearchInRange r (length c.as_slice.result.now)) c.in-Err.is c.binary_search.ensures.bound) in
    rw c.insert.ensures.items (rising-insert (λ text. text.now) c.args.labels.now.items c.in-Err.place c.args.label within c.requires.set.rising place)

pub returns-clause-put : goal.returns-clause-put
returns-clause-put c =
    let up = rw c.insert.ensures.items at (rising c) in
    rw c.insert.ensures.items (AreLabelsOf-insert (λ text. text.now) c.args.labels.now.items c.in-Err.place c.args.label up)

pub returns-clause-kept : goal.returns-clause-kept
returns-clause-kept c = record {
  rising = rising c;
  each = rw c.insert.ensures.items (AllPass-insert (λ text. text.now) c.args.labels.now.items c.in-Err.place c.args.label c.requires.set.each c.requires.label);
  few = let long = length-map c.insert.new.self.items (λ text. text.now) in omega (arith, long);
}
