-- Names for proofs: of other crates, and of this crate's definitions.
pub use Rattle.mr_concise.proofs.AnyOfLemmas.{IsAllTo, IsPassed-more, NextAuthor, NextAuthor-lower, NextIn, NextIn-lower, bound-lower, in_any-more_is}
pub use Rattle.mr_concise.specs.AnyOf.{in_any}
pub use Rattle.mr_concise.specs.Vector.{vector_has}
pub use Rattle.mr_concise.specs.declared.vector.AuthorColumn.{AuthorColumn}
pub use Rattle.mr_concise.specs.inner.AnyOf.{IsPassed}
pub use Rattle.mr_forms.specs.Covered.{all_covered, has_item, listed_items}
pub use Rattle.mr_forms.specs.Runs.{of_author}
pub use Rattle.mr_forms.specs.Sets.{Versions, is_listed}
pub use Rattle.mr_madewith.proofs.Found.{first_place, searched}
pub use Rattle.mr_madewith.proofs.Rising.{all_filtered, head_before, name_eq-swap, name_eq_self, named-filter, rises-filter, rises-inserted, same_names}
pub use Rattle.mr_madewith.proofs.Rising.{sorted_by_name, tail_rises}
pub use Rattle.mr_madewith.specs.Keyed.{AreRising, is_before, without}
pub use Rattle.mr_madewith.specs.Revision.{Rev, by_base}
pub use Rattle.mr_store.specs.FragmentIndex.{Finds, Places, general_from, general_of, is_told, item_of, listing_at, listings_from, listings_of, lists}
pub use Rattle.mr_store.specs.HeldVersions.{by_held}
pub use Rattle.mr_store.specs.Holdings.{Holdings}
pub use Rattle.mr_store.specs.Leaving.{leaves}
pub use Rattle.mr_store.specs.Revisions.{AreApart, AreConflicts, AreInVersionOrder, entered, holds, is_of, left_by, revision_of, supersedes, version_of}
pub use Rattle.mr_store.specs.Revisions.{versions_of}
pub use Rattle.mr_store.specs.Room.{room_of}
pub use Rattle.mr_store.specs.Unheld.{is_unheld}
pub use Rattle.mr_store.specs.declared.fragment_index.Listing.{Listing}
pub use Rattle.mr_store.specs.declared.room.Room.{Room}
pub use Rattle.mr_store.specs.inner.FragmentIndex.{has_at, is_for}
pub use Rattle.mr_store.specs.inner.GapVector.{GapParts}
pub use Rattle.mr_store.specs.inner.Index.{HasRoomFor, IsIndexOf, are_several, has_later, listed_for, stays_listed, to_list, version_inserted}
pub use Rattle.mr_store.specs.inner.RevisionList.{IsRevisionList, RevisionParts}
pub use Rattle.mr_store.specs.inner.Room.{is_for_later}
pub use Rattle.mr_store.specs.inner.Unheld.{by_vector}
pub use Rattle.mr_version.specs.Name.{Name, name_cmp, name_eq}
pub use Rattle.mr_version.specs.Order.{names_total}
pub use Rattle.std.proofs.lemmas.Bool.{and_right, cases_order, eqb-true, false_from_ne_true, or_from, or_parts, or_right}
pub use Rattle.std.proofs.lemmas.Fn.{filter_same}
pub use Rattle.std.proofs.lemmas.List.{append-nil, get_or_default, length-drop, take_more}
pub use Rattle.std.proofs.lemmas.List.Elements.{filter_agree, filter_map-append}
pub use Rattle.std.proofs.lemmas.List.Folds.{find-append, list_any-append}
pub use Rattle.std.proofs.lemmas.List.Sorted.{IsPartitionPoint-from_clause, answers_always, list_any-IsPermutation, ranks_by, searchable_from_sorted}
pub use Rattle.std.proofs.lemmas.List.Sorted.{sorted_far}
pub use Rattle.std.specs.BTreeMap.{BTreeMap, IsClone, get, is_at}
pub use Rattle.std.specs.List.{AllByRecursion, AllZip, cons_option, filter, filter_map, list_any, slice_get}
pub use Rattle.std.specs.List.Sorted.{IsNonDecreasingBy, IsPartitionPoint, IsPartitionedBy, IsSortedBy, IsSortedByKey, IsStrictlySortedBy}
pub use Rattle.std.specs.Map.{lookup}
pub use Rattle.std.specs.Option.{option_copied, option_map, option_map_or, option_or}
pub use Rattle.std.specs.Ordering.{is_eq, is_le, is_lt, ordering_index}
pub use Rattle.std.specs.declared.cmp.Ordering.{Ordering}
pub use Rattle.std.specs.declared.cmp.Ordering.TheVariants.{Less}
pub use Rattle.std.specs.declared.vec.Vec.{Vec}
