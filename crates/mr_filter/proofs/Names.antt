-- Names for proofs: of other crates, and of this crate's definitions.
pub use Rattle.mr_filter.specs.Condition.{Combines, Condition, HasFlag, HasLabel, IsValueOf, LacksFlag, LacksLabel, Since, SpellsCondition, all_bits}
pub use Rattle.mr_filter.specs.Condition.{barred_label, barred_labels, bit_off, bit_on, bits_off, bits_on, kind_of, label_count, latest_day, wanted_label}
pub use Rattle.mr_filter.specs.Condition.{wanted_labels}
pub use Rattle.mr_filter.specs.Filter.{ClauseParts, IsClause, IsFilter}
pub use Rattle.mr_filter.specs.Grammar.{HasTooManyClauses, HasTooManyLabels, HasTrueClause, IsClauseInGrammar, IsCondition, IsFirstBad, IsTrueClause}
pub use Rattle.mr_filter.specs.Grammar.{NamesTooMany, Reads, ReadsClause, SpellsConditions, clauses_of, cut_at, is_separator, pieces_of, width}
pub use Rattle.mr_filter.specs.Meaning.{covers, has_labels, is_as_wide, is_true_of, lacks_labels, meets, selects}
pub use Rattle.mr_filter.specs.Text.{IsClauseText, IsFilterText, conditions_of, join_or, since_condition}
pub use Rattle.mr_filter.specs.declared.clause.TheConstants.{MAX_CLAUSE_LABELS}
pub use Rattle.mr_filter.specs.declared.fault.FilterFault.TheVariants.{BadFilter, OutOfMemory, TooManyClauses, TooManyLabels}
pub use Rattle.mr_filter.specs.inner.Draft.{IsWithCondition, label_count_with}
pub use Rattle.mr_filter.specs.inner.Written.{LacksColon, lent_texts, meaning_of}
pub use Rattle.mr_mail.proofs.FlagLemmas.{bit_or-bit_of, has_flags-or, lacks_flags-or, passes-below}
pub use Rattle.mr_mail.proofs.LabelLemmas.{AllByRecursion-map, length-AreLabelsOf, list_any-map}
pub use Rattle.mr_mail.specs.Day.{Spells, date_digits, two_digits}
pub use Rattle.mr_mail.specs.Flag.{all_flags, bit_of, flag_name, has_flag, has_flags, lacks_flags}
pub use Rattle.mr_mail.specs.Label.{AreLabelsOf, IsLabelSet, different_labels, has_label, is_label, is_label_byte, text_cmp, text_eq, texts_of}
pub use Rattle.mr_mail.specs.Mail.{IsCard, MailCard}
pub use Rattle.mr_mail.specs.declared.flags.Flag.{Flag}
pub use Rattle.std.proofs.Math.ListN.{get_or-map}
pub use Rattle.std.proofs.lemmas.Bool.{cases_lt, eq-eqb, eqb-false, eqb-true, false≢true, le-leb, leb-true, ne_eqb, true≢false}
pub use Rattle.std.proofs.lemmas.List.{get_or-drop, get_or-take, length-append, length-drop, length-map, length-take-le, map-append, map-id, take_more}
pub use Rattle.std.proofs.lemmas.List.Elements.{All-from_recursion, All-head, All-nil, All-push, All-tail, filter_map-append, recursion_from_All}
pub use Rattle.std.proofs.lemmas.List.Folds.{list_all-append, list_any-append, list_any_at, list_any_none}
pub use Rattle.std.proofs.lemmas.List.Sorted.{All-permutation, IsPermutation-insert, IsPermutation-map, IsPermutation-to_front, IsPermutation-trans}
pub use Rattle.std.proofs.lemmas.List.Sorted.{list_any-IsPermutation, searchable_from_sorted}
pub use Rattle.std.proofs.lemmas.Map.Keys.{IsDistinct-from_sorted, IsDistinct-push, Less-from_sorted}
pub use Rattle.std.proofs.lemmas.Map.Made.{distinct_count-from_IsDistinct, length-le_from_is_member}
pub use Rattle.std.proofs.lemmas.Map.Steps.{list_any_congr}
pub use Rattle.std.proofs.lemmas.Option.{MatchOption-at_none, MatchOption-at_some}
pub use Rattle.std.proofs.lemmas.Result.{IfOk-weaker}
pub use Rattle.std.proofs.lemmas.Slice.Eq.{bytes_eq-Decides}
pub use Rattle.std.specs.Cmp.{first_so, second_so, tied_back}
pub use Rattle.std.specs.Cmp.Derive.{both_true}
pub use Rattle.std.specs.Cmp.Lexicographic.{nat_list_cmp_total, nat_list_eq_equiv, pointwise, texts_ties}
pub use Rattle.std.specs.Int.Bits.{or_zero_r}
pub use Rattle.std.specs.Int.RustNames.{bit_or}
pub use Rattle.std.specs.List.{All, AllByRecursion, AllPass, AllWithin, AllZip, HoldsAt, IsDistinct, filter_map, flat_map, insert, list_all, list_any}
pub use Rattle.std.specs.List.{onto_first}
pub use Rattle.std.specs.List.Sorted.{IsBinarySearchResult, IsPartitionPoint, IsPermutation, IsSearchInRange, IsSortedBy, IsStrictlySortedBy}
pub use Rattle.std.specs.Option.{IfNone, IfSome, IsSomeAnd, MatchOption, is_some}
pub use Rattle.std.specs.Ordering.{eq_by_cmp, is_eq, is_lt, ordering_reverse}
pub use Rattle.std.specs.Prelude.{IsTrue, codes, filter, nat_le, ◌↔◌}
pub use Rattle.std.specs.Result.{IfErr, IfOk, is_err, is_ok, result_ok}
pub use Rattle.std.specs.Str.{IsUtf8}
pub use Rattle.std.specs.declared.cmp.Ordering.TheVariants.{Equal, Greater, Less}
