-- Names for proofs: of other crates, and of this crate's definitions.
pub use Rattle.mr_forms.specs.Covered.{all_covered, covered, has_item, listed_items}
pub use Rattle.mr_forms.specs.Known.{AreSame, Form, HasValue, IsOnlyOverItems, Pairs, Part, learned, learned_of, learned_with, with_learned, with_pairs}
pub use Rattle.mr_forms.specs.Parts.{AreInOrder, AreListable, ArePartsThat, ComesFirst, part_of}
pub use Rattle.mr_forms.specs.Plain.{AreFragmentsOf, ComesBefore, HasPlainVersions, IsAllOrOne, IsOneByOne, IsPlainPart, beyond_all, had_by_item, had_for_all}
pub use Rattle.mr_forms.specs.Plain.{is_all, is_named, plain_form, plain_known}
pub use Rattle.mr_forms.specs.PlainPair.{PlainKnown, has_pair, pair, pair_cmp}
pub use Rattle.mr_forms.specs.Runs.{HasNoAuthorFrom, HasNoRunFrom, HasVersionsAlone, IsFirstFrom, IsNextAuthor, StandsBefore, in_run, in_runs, of_author}
pub use Rattle.mr_forms.specs.Sets.{IsSame, Versions, both, is_listed}
pub use Rattle.mr_forms.specs.declared.fragment.Fragment.{Fragment}
pub use Rattle.mr_forms.specs.declared.fragment.ItemSet.{ItemSet}
pub use Rattle.mr_forms.specs.declared.fragment.ItemSet.TheVariants.{Listed}
pub use Rattle.mr_forms.specs.declared.plain_knowledge.Pair.{Pair}
pub use Rattle.mr_forms.specs.inner.Additions.{taken_back}
pub use Rattle.mr_forms.specs.inner.Columns.{EndsBelow, EndsUpTo, GainsVersion}
pub use Rattle.mr_forms.specs.inner.Plain.{IsOnly}
pub use Rattle.mr_forms.specs.inner.PlainSteps.{EndsBy, GainsPair, GainsVersionOf, IsFragmentOf}
pub use Rattle.mr_version.specs.Name.{IsVersion, Name, name_cmp, name_eq}
pub use Rattle.mr_version.specs.Order.{exact_names, names_total}
pub use Rattle.std.proofs.Math.ListN.{get_or-append, length-append, length-map}
pub use Rattle.std.proofs.Math.Seq.{drop-cons, get_or-append_seam}
pub use Rattle.std.proofs.lemmas.Bool.{and_from, and_parts, cases_lt, cases_order, false≢true, or_cases, or_left, or_right}
pub use Rattle.std.proofs.lemmas.Bool.Decides.{nat_tests}
pub use Rattle.std.proofs.lemmas.Cmp.{eq_by_cmp_equiv, on_total, then_total, tied_itself, upto}
pub use Rattle.std.proofs.lemmas.List.{get_or-map, nil_from_length, take-append-drop, take_all, take_more}
pub use Rattle.std.proofs.lemmas.List.Elements.{All-append, All-cons, All-contains, All-contains_itself, All-from_recursion, All-head, All-map, All-nil}
pub use Rattle.std.proofs.lemmas.List.Elements.{All-push, All-tail, All-weaker}
pub use Rattle.std.proofs.lemmas.List.Folds.{list_any-append, list_any_more}
pub use Rattle.std.proofs.lemmas.List.Quantifiers.{all_pairs_push}
pub use Rattle.std.proofs.lemmas.Map.Iter.{rest_all, rest_more}
pub use Rattle.std.proofs.lemmas.Map.Keys.{sorted_from_all_adjacent, sorted_head, sorted_tail}
pub use Rattle.std.specs.BTreeSet.{contains, insert_key}
pub use Rattle.std.specs.Cmp.{IsTotalOrder}
pub use Rattle.std.specs.List.{All, list_any}
pub use Rattle.std.specs.List.Sorted.{IsStrictlySortedBy}
pub use Rattle.std.specs.Map.Iter.{deref}
pub use Rattle.std.specs.Ordering.{eq_by_cmp, is_eq, is_gt, match_ordering, ordering_then}
pub use Rattle.std.specs.declared.cmp.Ordering.{Ordering}
pub use Rattle.std.specs.declared.cmp.Ordering.TheVariants.{Less}
