-- Names for proofs: of other crates, and of this crate's definitions.
pub use Rattle.mr_concise.proofs.ColumnLemmas.{column_has-edges, column_unique}
pub use Rattle.mr_concise.proofs.EdgeLemmas.{IsRising-end, is_on-stay, is_on-turn}
pub use Rattle.mr_concise.proofs.EqualLemmas.{vector_eq-same, vectors_Decides, vectors_same}
pub use Rattle.mr_concise.proofs.LastLemmas.{bound-is_last, column_has-above}
pub use Rattle.mr_concise.proofs.SweepLemmas.{IsColumnOf-unique, at_most-from_holes, extend, few-of_authors}
pub use Rattle.mr_concise.proofs.UnionLemmas.{column_has-empty, column_of-IsColumn}
pub use Rattle.mr_concise.proofs.VectorLemmas.{IsVectorFrom-with_column, column_of-with_column, with_column-insert}
pub use Rattle.mr_concise.proofs.VersionLemmas.{few-vector}
pub use Rattle.mr_concise.specs.Column.{Extent, IsColumn, column_has, edges, empty_column, hole_edges, hole_has, with_counter}
pub use Rattle.mr_concise.specs.Edges.{IsRising}
pub use Rattle.mr_concise.specs.Equal.{vector_eq}
pub use Rattle.mr_concise.specs.Fragments.{ConciseFragment, fragment_text, items_text, knowledge_text}
pub use Rattle.mr_concise.specs.Next.{HasNoneFrom, IsNextIn, IsNextOut}
pub use Rattle.mr_concise.specs.Source.{ColumnsHaveAtMost, HasAtLeastHoles, HasAtMostHoles, HasFewerHoles, IsColumnOf, in_some}
pub use Rattle.mr_concise.specs.Vector.{HasTooManyHoles, IsVectorFrom, IsVectorOf, column_of, vector_has, with_column}
pub use Rattle.mr_concise.specs.declared.column.Hole.{Hole}
pub use Rattle.mr_concise.specs.declared.column.TheConstants.{COUNTERS_END, MAX_HOLES}
pub use Rattle.mr_concise.specs.declared.vector.AuthorColumn.{AuthorColumn}
pub use Rattle.mr_concise.specs.inner.Edges.{is_on}
pub use Rattle.mr_forms.proofs.MergedLemmas.{after_all, after_all-same, fits_next, holes_there, items_there, merged_next, take_next}
pub use Rattle.mr_forms.proofs.PairLemmas.{name_eq-itself}
pub use Rattle.mr_forms.proofs.PartLemmas.{AllPairs-head, AllPairs-tail, Contains-cases, Contains-here, Contains-there, parts_that-unique}
pub use Rattle.mr_forms.proofs.SetLemmas.{name_eq-parts, name_eq-symmetric, or_comm}
pub use Rattle.mr_forms.specs.Covered.{HasItems, all_covered, has_item, listed_items}
pub use Rattle.mr_forms.specs.Known.{AreSame, HasValue, IsOnlyOverItems, IsOverHolesInTurn, IsOverItemsInTurn, Pairs, Part, learned_of, with_below}
pub use Rattle.mr_forms.specs.Known.{with_learned, with_learned_below, with_pairs}
pub use Rattle.mr_forms.specs.Merged.{AreOverHolesInTurn, AreOverItemsInTurn, FirstHasValue, after_each}
pub use Rattle.mr_forms.specs.Parts.{AreInOrder, AreListable, ArePartsThat, ComesFirst, part_of}
pub use Rattle.mr_forms.specs.Runs.{HasNoAuthorFrom, IsNextAuthor, of_author}
pub use Rattle.mr_forms.specs.Sets.{Covers, IsSame, Versions}
pub use Rattle.mr_forms.specs.declared.fault.FormFault.{FormFault}
pub use Rattle.mr_forms.specs.declared.fragment.Fragment.{Fragment}
pub use Rattle.mr_forms.specs.declared.fragment.TheConstants.{MAX_ITEMS}
pub use Rattle.mr_itemset.specs.Equal.{listed_eq, normal_eq}
pub use Rattle.mr_itemset.specs.Folded.{HasAtMost, IsKept, IsSparse, both_columns, column_upto, folded, united}
pub use Rattle.mr_itemset.specs.Groups.{Alike, all_grouped, alone, grouped, takes}
pub use Rattle.mr_itemset.specs.ItemForm.{HasHoleyItem, HasNormalVersions, IsNormalPart, ListsTooMany, items_form}
pub use Rattle.mr_itemset.specs.Normal.{HasMore, IsBefore, IsNormal, Normal, normal_known, vector_in, vector_of}
pub use Rattle.mr_itemset.specs.NormalForm.{AreApart, AreNormalOf, HasOneNormalForm, IsGreater, is_of, said}
pub use Rattle.mr_itemset.specs.Pieces.{AreAllWith, FillsBefore, HasPiece, IsFullBefore, IsPieceOf}
pub use Rattle.mr_itemset.specs.Shown.{Shown, fragments_in, normal_text, shown, shown_group, shown_items, shown_text}
pub use Rattle.mr_itemset.specs.Sparing.{goes_to_all, holes_among, holes_for_all, sparing_form, spreads}
pub use Rattle.mr_itemset.specs.Told.{AreTold, HasFewestHoles, IsSparest, IsTold, IsToldOf, IsToldOfAuthor, IsToldPart, Spares, Tells, is_beyond}
pub use Rattle.mr_itemset.specs.declared.knowledge.Listed.{Listed}
pub use Rattle.mr_itemset.specs.inner.Each.{CountsNew, with_each}
pub use Rattle.mr_itemset.specs.inner.Entries.{listed_as, listed_of, vectors_of}
pub use Rattle.mr_itemset.specs.inner.Folded.{Fits, IsSplit}
pub use Rattle.mr_itemset.specs.inner.Grouping.{GroupsTold, IsGrouping}
pub use Rattle.mr_itemset.specs.inner.Groups.{AreNoted, FillInTurn, IsNoted, TakesAt, mark_of}
pub use Rattle.mr_itemset.specs.inner.Growth.{GainsListed, HasGained, HasLearned, IsGrown, with_some_below}
pub use Rattle.mr_itemset.specs.inner.Lacking.{Lacks}
pub use Rattle.mr_itemset.specs.inner.Normal.{items_of}
pub use Rattle.mr_itemset.specs.inner.Placed.{HasRoom, Lists, placed}
pub use Rattle.mr_itemset.specs.inner.Room.{Drops, HasRoomWith}
pub use Rattle.mr_itemset.specs.inner.Told.{AreToldItems, GainsTold, IsToldItem, Skips, beyond}
pub use Rattle.mr_version.specs.Name.{Name, name_cmp, name_eq}
pub use Rattle.mr_version.specs.Order.{exact_names, names_total}
pub use Rattle.std.proofs.Math.ListN.{length-append, length-map}
pub use Rattle.std.proofs.Math.Nat.{add-suc, add-zero, add_comm, suc-mul}
pub use Rattle.std.proofs.Math.Seq.{take-length}
pub use Rattle.std.proofs.lemmas.Bool.{and_from, and_left, and_parts, cases_Bool, cases_eq, cases_lt, eq-eqb, false_from_ne_true, false≢true, le-leb, le-ltb}
pub use Rattle.std.proofs.lemmas.Bool.{leb-true, lt-leb, lt-ltb, ltb-true, ne_eqb, not-true, not_from_false, or_cases, or_parts, true≢false}
pub use Rattle.std.proofs.lemmas.Bool.Decides.{nat_tests, same_from_decides}
pub use Rattle.std.proofs.lemmas.Cmp.{eq_by_cmp_equiv, tied_itself}
pub use Rattle.std.proofs.lemmas.List.{append-nil, drop-drop, drop_all, drop_at, get_or-map, get_or-set_other, get_or-set_same, get_or_append_left}
pub use Rattle.std.proofs.lemmas.List.{get_or_default, get_or_push, length-set, length_push, map-append, take_all, take_at, take_more}
pub use Rattle.std.proofs.lemmas.List.Elements.{All-cons, All-contains, All-contains_itself, All-get_or, All-head, All-map, All-more, All-nil, All-push}
pub use Rattle.std.proofs.lemmas.List.Elements.{All-tail, All-weaker, AllZip-get_or, Contains-append_left, Contains-append_right, Contains-push}
pub use Rattle.std.proofs.lemmas.List.Elements.{Contains-push_cases, length_all_zip}
pub use Rattle.std.proofs.lemmas.List.Folds.{flat_map-map, list_any-append}
pub use Rattle.std.proofs.lemmas.Map.Iter.{iter_end, rest_all, rest_more, rest_so_far}
pub use Rattle.std.proofs.lemmas.Map.Keys.{IsDistinct-cons, IsDistinct-from_apart}
pub use Rattle.std.proofs.lemmas.Map.Made.{length-le_from_is_member}
pub use Rattle.std.proofs.lemmas.Result.{err_from_is_err_and, on_ok_weaker}
pub use Rattle.std.proofs.lemmas.Simd.{map-map}
pub use Rattle.std.specs.BTreeMap.{BTreeMap, IsOrdered, Updates, get, insert_entry, is_at}
pub use Rattle.std.specs.List.{AllByRecursion, AllZip, IsDistinct, filter, flat_map, join_by, list_any, slice_get}
pub use Rattle.std.specs.List.Sorted.{IsNonDecreasingBy, IsStrictlySortedBy}
pub use Rattle.std.specs.Map.Iter.{TakesFirst, deref, deref_pair}
pub use Rattle.std.specs.Option.{is_some, unwrap_or}
pub use Rattle.std.specs.Ordering.{is_eq, is_lt, ordering_reverse}
pub use Rattle.std.specs.Prelude.{IsErrOf, IsTrue, codes, if◌then◌else◌, max, min, not, ◌↔◌}
pub use Rattle.std.specs.declared.cmp.Ordering.{Ordering}
pub use Rattle.std.specs.declared.cmp.Ordering.TheVariants.{Equal, Less}
